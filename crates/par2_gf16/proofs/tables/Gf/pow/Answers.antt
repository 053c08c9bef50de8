use Rattle.par2_gf16.proofs.Names.{◌<◌, ap, sym, ◌∙◌, arith, pow, power_is, zero_power}
use Rattle.par2_gf16.proofs.tables.Gf.pow.Goals as goal

pub returns-then-e-eq0 : goal.returns-then-e-eq0
unfolding pow
returns-then-e-eq0 c = sym (ap (pow c.args.a) c.if-e-eq0.true)

pub returns-then-a-eq0 : goal.returns-then-a-eq0
returns-then-a-eq0 c =
    let positive : 0 < c.args.e = omega (arith, c.if-e-eq0.false) in
    sym (ap (λ a. pow a c.args.e) c.if-a-eq0.true ∙ zero_power c.args.e positive)

pub returns : goal.returns
returns c = c.power.ensures ∙ power_is c.args.a c.args.e c.log.result c.log.ensures.value
