use Rattle.par2_gf16.proofs.Words.{twice_sixteen, thrice_sixteen}
use Rattle.par2_gf16.proofs.factor.Factor.new.Goals as goal

pub invariant_of-result : goal.invariant_of-result
invariant_of-result c =
    let x = c.args.element in
    let second = c.sixteen_times-second.ensures in
    let third = twice_sixteen x c.sixteen_times-second.result c.sixteen_times-third.result c.ranges.element.fits second c.sixteen_times-third.ensures in
    let fourth = thrice_sixteen x c.sixteen_times-third.result c.sixteen_times-fourth.result c.ranges.element.fits third c.sixteen_times-fourth.ensures in
    rw (c.new.ensures, c.new-2.ensures, c.new-3.ensures, c.new-4.ensures) (second, third, fourth)
