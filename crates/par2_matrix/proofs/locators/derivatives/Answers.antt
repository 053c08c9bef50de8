use Rattle.par2_matrix.proofs.Names.{Fits-lt-pow, List, Ok, YieldsList-from_map, YieldsList-from_slice, all_from, ap, ap₂, arith, bit_xor, derivative_end, derivative_from, drop, get_or, get_or-map, get_or-replicate, items_from_collect, length, length-drop, length-map, map, mul, quotient, rules, subst, sym, value, with_items_is, ℕ, ◌*◌, ◌+◌, ◌-◌, ◌/◌, ◌<◌, ◌^◌, ◌∙◌, ◌≡◌, ◌≤◌}
use Rattle.par2_matrix.proofs.locators.derivatives.Goals.{After-as_mut_slice}
use Rattle.par2_matrix.proofs.locators.derivatives.Goals as goal

factors_are : (c : After-as_mut_slice) → c.deref.result.now ≡ map (λ a. mul a a) c.args.points.now
factors_are c =
    c.deref.ensures.value
    ∙ items_from_collect {E = ℕ} (Ok c.in_ok-squares.squares) c.in_ok-squares.ensures.ran (YieldsList-from_map _ (λ a. mul a a) (YieldsList-from_slice c.args.points.now (cc)) c.map.ensures.closure (λ x r q k. search rules))

pub step_each-requires : goal.step_each-requires
step_each-requires c = ap (λ (xs : List ℕ). length xs) (factors_are c) ∙ length-map c.args.points.now (λ a. mul a a) ∙ sym (ap (λ (xs : List ℕ). length xs) c.as_mut_slice.ensures.value ∙ c.loop-k.invariant.0)

pub loop-k-init : goal.loop-k-init
loop-k-init c =
    let p = c.args.p.now in let left = length-drop (2 * (length p / 2)) p in let zeros = c.in_ok-values.ensures.items_if_clones_equal (λ y h. search rules) in
    (search rules, λ j low. ap (λ xs. get_or xs j 0) zeros ∙ get_or-replicate (length c.args.points.now) j 0 0 low ∙ sym (derivative_end (get_or c.args.points.now j 0) (drop (2 * (length p / 2)) p) (omega (arith, left))))

pub loop-k-preserved : goal.loop-k-preserved
loop-k-preserved c =
    let p = c.args.p.now in let points = c.args.points.now in let k = c.loop-k.k - 1 in let values = c.step_each.new.values in
    let some : 0 < c.loop-k.k = c.loop-k-test.true in let next : c.loop-k.k ≡ k + 1 = omega (arith, some) in let most : c.loop-k.k ≤ length p / 2 = c.loop-k.auto.k in
    let size : length values ≡ c.loop-k.values.len = search rules in let before = c.as_mut_slice.ensures.value in
    let count : length values ≡ length points = c.step_each.ensures.count ∙ ap (λ (xs : List ℕ). length xs) before ∙ c.loop-k.invariant.0 in
    subst (λ (xs : List ℕ). (length xs ≡ length points) × ((j : ℕ) → j < length points → let z = get_or points j 0 in get_or xs j 0 ≡ value (quotient z (drop (2 * k) p)) z)) (sym (with_items_is c.loop-k.values values size)) (
      count,
      λ j low.
          let z = get_or points j 0 in
          let square : get_or c.deref.result.now j 0 ≡ mul z z = ap (λ (xs : List ℕ). get_or xs j 0) (factors_are (goal.at.loop-k-preserved c).After-as_mut_slice) ∙ get_or-map (λ a. mul a a) points j 0 0 low in
          c.step_each.ensures.each j (let same = ap (λ (xs : List ℕ). length xs) before in let all = c.loop-k.invariant.0 in omega (arith, low, same, all))
          ∙ ap (bit_xor (get_or p (2 * k + 1) 0))
          (ap₂ mul square (ap (λ (xs : List ℕ). get_or xs j 0) before ∙ c.loop-k.invariant.1 j low ∙ ap (λ n. value (quotient z (drop (2 * n) p)) z) next))
          ∙ sym (derivative_from z k p (all_from (λ x. x < 2 ^ 16) 0 p (λ i _. Fits-lt-pow (c.type_inv.p i))) (Fits-lt-pow (c.type_inv.points j)) (omega (arith, some, most))),
    )
