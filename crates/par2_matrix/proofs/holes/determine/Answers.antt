use Rattle.par2_matrix.proofs.Names.{AreHoleEquations, IsRepairable, IsTrue, List, ap, arith, eqb-true, holes, holes_determine, length, locator, more_determine, only_zero_fits, rules, span, subst, sym, ℕ, ◌+◌, ◌∙◌, ◌≡◌, ◌≤◌}
use Rattle.par2_matrix.proofs.holes.determine.Goals as goal

pub returns-in-Some-2 : goal.returns-in-Some-2
returns-in-Some-2 c = λ yes.
    let lost = c.args.lost.now in
    let es = c.in-Some.first.numbers.now in
    let n = c.count_equations.result in
    let slices : IsTrue c.are_slices.result = search rules in
    let fit : n + length lost ≤ span es + 1 = omega (arith, c.count_equations.ensures, c.in-Some.ensures.count) in
    let many : c.len.result ≡ length c.in_ok-places.places.items = search rules in
    let full : c.rank.result ≡ length (holes es) = eqb-true c.rank.result c.len.result yes ∙ many ∙ ap (λ (xs : List ℕ). length xs) c.in_ok-places.ensures in
    let are : AreHoleEquations (locator lost) (holes es) 0 n c.in-Some-2.system = rw (c.in-Some-2.is, c.deref.ensures.value, c.in_ok-locator.ensures, c.deref-2.ensures.value, c.in_ok-places.ensures) at c.in_ok-system.ensures in
    more_determine lost c.args.exponents.now.numbers.now (length lost)
    (subst (IsRepairable lost) c.in-Some.ensures.first
    (holes_determine lost es n (c.are_slices.ensures slices) c.in-Some.first.rise c.in-Some.first.some fit (only_zero_fits (locator lost) (holes es) 0 n c.in-Some-2.system are (c.rank.ensures.full.0 (full ∙ sym are.columns)))))
