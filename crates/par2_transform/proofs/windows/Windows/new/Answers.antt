use Rattle.par2_transform.proofs.Names.{arith, ◌≤◌, ◌*◌, coprimes_below, coprimes_below-mono}
use Rattle.par2_transform.proofs.windows.Windows.new.Goals as goal

pub invariant_of-result : goal.invariant_of-result
invariant_of-result c =
    let plan = c.new-plan.result in
    let more : coprimes_below c.exponents.result ≤ coprimes_below (plan.classes * (plan.windows * plan.window)) = coprimes_below-mono c.exponents.result (plan.classes * (plan.windows * plan.window)) c.new-plan.ensures in
    record { few = c.in_ok-slices.ensures.few; bytes = c.in_ok-slices.ensures.bytes; reaches = omega (arith, more, c.exponents.ensures.reach); inverted = c.in_ok-inverses.ensures }
