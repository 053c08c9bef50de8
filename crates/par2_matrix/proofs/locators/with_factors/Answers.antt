use Rattle.par2_matrix.proofs.Names.{AreFactors, List, ap, ap₂, arith, at_itself, constant, factor_is, first_powers, get_or, get_or_default, length, length-map, locator, more_factors, mul, pow, quotient, rules, slices_of, subst, sym, value, ℕ, ◌<◌, ◌^◌, ◌∙◌, ◌≡◌, ◌≢◌}
use Rattle.par2_matrix.proofs.locators.with_factors.Goals.{After-mul-value}
use Rattle.par2_matrix.proofs.locators.with_factors.Goals as goal

low : (c : After-mul-value) → c.loop-j.j < length c.in_ok-points.points.items
low c = omega (arith, c.loop-j-test.true, c.len-j-end.ensures)

within : (c : After-mul-value) → c.loop-j.j < length c.deref-2.result.now
within c = omega (arith, low c, ap length c.deref-2.ensures.value)

many : (c : After-mul-value) → c.loop-j.j < length c.args.lost.now.numbers.now
many c = omega (arith, low c, ap length (c.in_ok-points.ensures ∙ first_powers c.args.lost.now.numbers.now), length-map c.args.lost.now.numbers.now constant)

value_is : (c : After-mul-value) → let z = constant (get_or c.args.lost.now.numbers.now c.loop-j.j 0) in c.mul-value.result ≡ mul (pow z c.args.first) (value (quotient z (locator c.args.lost.now.numbers.now)) z)
value_is c =
    let j = c.loop-j.j in
    let point = c.index.ensures ∙ sym (get_or_default c.in_ok-points.points.items j 0 _ (low c)) ∙ ap (λ xs. get_or xs j 0) (sym c.deref-2.ensures.value) in
    let derivative = c.index-in-loop-j.ensures ∙ sym (get_or_default c.in_ok-derivatives.derivatives.items j 0 _ (omega (arith, within c, c.in_ok-derivatives.ensures.count))) in
    c.mul-value.ensures ∙ ap₂ mul (c.pow.ensures ∙ ap (λ z. pow z c.args.first) point) derivative
    ∙ factor_is c.args.lost.now.numbers.now c.args.first j c.deref-2.result.now c.deref.result.now c.in_ok-derivatives.derivatives.items (c.deref-2.ensures.value ∙ c.in_ok-points.ensures ∙ first_powers c.args.lost.now.numbers.now) (c.deref.ensures.value ∙ c.in_ok-p.ensures) c.in_ok-derivatives.ensures.each (within c)

pub unwrap-requires : goal.unwrap-requires
unwrap-requires c =
    let at = (goal.at.unwrap-requires c).After-mul-value in
    let nonzero : c.mul-value.result ≢ 0 = λ e. at_itself c.args.lost.now.numbers.now c.args.first c.loop-j.j (slices_of c.args.lost.now) (many at) (sym (value_is at) ∙ e) in
    search rules

pub loop-j-preserved : goal.loop-j-preserved
loop-j-preserved c =
    let at = (goal.at.loop-j-preserved c).After-mul-value in
    let inverse : mul c.mul-value.result c.unwrap.result ≡ 1 = search rules in
    let small : c.unwrap.result < 2 ^ 16 = search rules in
    more_factors c.args.first c.args.lost.now.numbers.now c.loop-j.factors.items c.push.new.self.items c.loop-j.j c.unwrap.result c.loop-j.invariant c.in_ok-push.ensures.items small (ap (λ x. mul x c.unwrap.result) (sym (value_is at)) ∙ inverse)

pub returns-clause-points : goal.returns-clause-points
returns-clause-points c = c.in_ok-points.ensures ∙ first_powers c.args.lost.now.numbers.now

pub loop-j-init : goal.loop-j-init
loop-j-init c = record { count = ap (λ (xs : List ℕ). length xs) c.in_ok-factors.ensures.items; small = λ j low. absurd (omega (arith, low)); each = λ j low. absurd (omega (arith, low)) }

pub returns-clause-factors : goal.returns-clause-factors
returns-clause-factors c =
    let lost = c.args.lost.now.numbers.now in
    let end : c.loop-j.j ≡ length lost = omega (arith, c.loop-j-test.false, c.loop-j.auto.j-end, c.len-j-end.ensures, ap length (c.in_ok-points.ensures ∙ first_powers lost), length-map lost constant) in
    subst (AreFactors c.args.first lost c.loop-j.factors.items) end c.loop-j.invariant
