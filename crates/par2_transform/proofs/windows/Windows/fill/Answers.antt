use Rattle.par2_transform.proofs.Names.{arith, ◌+◌, ◌*◌, ◌<◌, ◌≤◌, ◌∙◌, ap₂, mul, cut_of, get_or_default, coefficients_from, next_first}
use Rattle.std.proofs.Common.{mul-le-mul_right}
use Rattle.par2_transform.proofs.windows.Windows.fill.Goals as goal

pub loop-i-preserved : goal.loop-i-preserved
loop-i-preserved c =
    let self = c.args.self.now in
    let l = c.loop-i in
    let m = c.args.a * self.plan.window + l.i in
    let up : (c.args.a + 1) * self.plan.window ≤ self.plan.windows * self.plan.window = mul-le-mul_right self.plan.window (omega (arith, c.requires.window)) in
    let low : m < self.plan.windows * self.plan.window = omega (arith, up, c.loop-i-test.true) in
    next_first (coefficients_from (cut_of self.plan) self.slices c.args.r c.args.a c.args.from) l.i _ c.args.rows.now l.rows c.add_bytes.new.self l.invariant c.add_bytes.ensures
    (λ k h. ap₂ mul (c.new-factor.ensures ∙ c.index.ensures ∙ get_or_default self.inverses.items m c.index.result.now 0 (omega (arith, low, self.inverted.count)) ∙ self.inverted.each m low)
    (c.bytes_from.ensures k ∙ c.at_power-slice.ensures (c.args.from + k)))
