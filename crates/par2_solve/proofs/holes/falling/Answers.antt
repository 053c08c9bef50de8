use Rattle.par2_solve.proofs.Names.{List, Ok, YieldsList-from_map, YieldsList-from_range, ap, arith, items_from_collect, map, range_with_len, reverse, rules, slice_index, ℕ, ◌-◌, ◌∙◌, ◌≡◌}
use Rattle.par2_solve.proofs.holes.falling.Goals as goal

pub returns : goal.returns
returns c =
    let p = c.args.p.now in
    let n = c.args.count in
    let rising : c.in_ok-coefficients.coefficients.items ≡ map (slice_index p) (range_with_len 0 n) =
    items_from_collect {E = ℕ} (Ok c.in_ok-coefficients.coefficients) c.in_ok-coefficients.ensures.ran (YieldsList-from_map _ (slice_index p) (YieldsList-from_range 0 n n (cc) (let e : n - 0 ≡ n = omega arith in e)) c.map-rising.ensures.closure (λ x r q k. search rules)) in
    c.reverse.ensures.items ∙ ap (λ (xs : List ℕ). reverse xs) rising
