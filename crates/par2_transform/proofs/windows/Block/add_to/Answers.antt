use Rattle.par2_transform.proofs.Names.{arith, ap₂, ◌∙◌, ◌≡◌, ◌+◌, ◌*◌, ◌<◌, ◌≤◌, ◌^◌, ap, subst, mul, pow, pow_mono, lists_of, Outputs, chirp_inverse, EachColumn, ArePowerSums, cut_of, next_output, ◌-◌, min, mul-le-mul_right, all_outputs, still_within}
use Rattle.par2_transform.proofs.windows.Block.add_to.Goals as goal

pub loop-t-preserved : goal.loop-t-preserved
loop-t-preserved c =
    let plan = c.args.class.now.plan in
    let was = c.args.self.now in
    let t = c.loop-t.t in
    let sums : c.self.inside.sums ≡ was.sums = ap (λ (b : Outputs). b.sums) c.self.view_is in
    let exponent : c.self.inside.exponent ≡ was.exponent = ap (λ (b : Outputs). b.exponent) c.self.view_is in
    let low : t < 2 ^ plan.levels = omega (arith, c.loop-t-test.true, c.min-t-end.ensures, plan.fit, plan.some.0) in
    let narrow : c.args.columns.now.to ≤ c.args.columns.now.from + was.sums.words = omega (arith, c.requires.fits.narrow, c.requires.shape.words) in
    next_output c.args.columns.now.outputs.places.now c.args.columns.now.outputs.words (cut_of plan) was.sums c.power_sums.new.rows was.exponent c.args.class.now.number c.args.columns.now.from c.args.columns.now.to c.args.first t c.mul-factor.result c.row.result.now
    (lists_of c.args.buffers.now) (lists_of c.loop-t.buffers) (lists_of c.add_products.new.buffers)
    (subst (λ s. EachColumn (ArePowerSums s.levels 0) s c.power_sums.new.rows) sums c.power_sums.ensures) c.requires.shape.levels low narrow
    (c.mul-factor.ensures ∙ ap₂ mul c.power.ensures c.chirp_inverse-inverse.ensures ∙ ap (λ e. mul (pow 2 ((e + t) * c.args.class.now.number)) (chirp_inverse plan.classes (e + t))) exponent) c.row.ensures.words c.loop-t.invariant c.add_products.ensures

pub overflow_mul-e : goal.overflow_mul-e
overflow_mul-e c =
    let plan = c.args.class.now.plan in
    let points : 2 ^ plan.levels ≤ 2 ^ 16 = pow_mono {i = plan.levels} {j = 16} plan.few_levels in
    let low : c.self.inside.exponent + c.loop-t.t ≤ 2 ^ 40 = omega (arith, c.self.invariant, points, plan.fit, c.loop-t-test.true, c.min-t-end.ensures) in
    let most : (c.self.inside.exponent + c.loop-t.t) * c.args.class.now.number ≤ 2 ^ 40 * c.args.class.now.number = mul-le-mul_right c.args.class.now.number low in
    omega (arith, most, c.args.class.now.known, plan.few_classes)

pub add_products-requires-clause-room : goal.add_products-requires-clause-room
add_products-requires-clause-room c = still_within c.args.columns.now.outputs.places.now _ _ _ (lists_of c.args.buffers.now) (lists_of c.loop-t.buffers) c.loop-t.invariant c.requires.fits.room

pub returns-clause-added : goal.returns-clause-added
returns-clause-added c =
    let outputs = c.args.columns.now.outputs in
    let end : c.loop-t.t ≡ c.min-t-end.result = omega (arith, c.loop-t-test.false, c.loop-t.auto.t-end) in
    let left = c.saturating_sub-left.ensures ∙ ap (λ n. n - c.args.first) c.len.ensures in
    all_outputs outputs.places.now outputs.words (cut_of c.args.class.now.plan) c.args.self.now.sums c.args.self.now.exponent c.args.class.now.number c.args.columns.now.from c.args.columns.now.to c.args.first c.args.class.now.plan.block c.loop-t.t
    (lists_of c.args.buffers.now) (lists_of c.loop-t.buffers) (end ∙ c.min-t-end.ensures ∙ ap (min c.args.class.now.plan.block) left) c.loop-t.invariant
