use Rattle.par2_solve.proofs.Names.{AreHoleInverse, Filled, Filling, Inverts, IsRepairable, List, ap, ap₂, arith, falling, falling_long, get_or, holes, holes_determine, is_run, length, length-take, lists_of, locator, range_has, range_with_len, run_determines, slices_of, span, subst, sym, take, ℕ, ◌+◌, ◌∙◌, ◌≡◌}
use Rattle.par2_solve.proofs.holes.inverse_at_front.Goals as goal

pub returns-then-span-first : goal.returns-then-span-first
returns-then-span-first c =
    let ks = c.args.lost.now.numbers.now in let es = c.in-Some.first.numbers.now in let f = get_or es 0 0 in
    let run = is_run es c.in-Some.first.rise c.in-Some.first.some (omega (arith, c.if-span-first.true, c.span.ensures)) in
    let same : range_with_len f (length ks) ≡ take (length ks) c.args.exponents.now.numbers.now = ap (range_with_len f) (sym c.in-Some.ensures.count) ∙ sym run ∙ c.in-Some.ensures.first in
    record {
      within = omega (arith, length-take (length ks) c.args.exponents.now.numbers.now, ap (λ (xs : List ℕ). length xs) c.in-Some.ensures.first, c.in-Some.ensures.count);
      inverts = subst (λ xs. Inverts ks xs c.in_ok-inverse_for_run.field-0) same c.in_ok-inverse_for_run.ensures;
      enough = subst (IsRepairable ks) same (run_determines ks (range_with_len f (length ks)) f (slices_of c.args.lost.now) (range_has f (length ks)));
    }

pub new-requires : goal.new-requires
new-requires c =
    let n = length c.in-Some.first.numbers.now + c.count_equations-count.result in
    omega (arith, ap (λ (xs : List ℕ). length xs) c.in_ok-falling.ensures, falling_long c.deref-3.result.now n, c.if-window-count-gt65536.false)

pub returns : goal.returns
returns c =
    let ks = c.args.lost.now.numbers.now in let es = c.in-Some.first.numbers.now in let n = c.count_equations-count.result in
    let fit : n + length es ≡ span es + 1 = c.count_equations-count.ensures in
    let inverse : AreHoleInverse (locator ks) (holes es) n (lists_of c.in-Some-2.inverse.items) = rw (c.in-Some-2.is, c.deref.ensures.value, c.in_ok-p.ensures, c.deref-2.ensures.value, c.in_ok-places.ensures) at c.in_ok-inverse.ensures in
    let filling : Filling = record { equations = c.in_ok-new.field-0; holes = c.in-Some-2.inverse; origins = c.in_ok-origins.field-0; locator = c.in_ok-run_locator.field-0 } in
    let window : length es + n ≡ span es + 1 = omega (arith, fit) in
    record {
      within = omega (arith, length-take (length ks) c.args.exponents.now.numbers.now, ap (λ (xs : List ℕ). length xs) c.in-Some.ensures.first, c.in-Some.ensures.count);
      inverts = subst (λ xs. Inverts ks xs (Filled filling)) c.in-Some.ensures.first (record {
        square = c.in-Some.ensures.count;
        rise = c.in-Some.first.rise;
        fit = ap (λ m. m + length es) c.in_ok-new.ensures.count ∙ fit;
        sequence = c.in_ok-new.ensures.sequence ∙ c.in_ok-falling.ensures ∙ ap₂ falling (c.deref-3.ensures.value ∙ c.in_ok-p.ensures) window;
        holes = subst (λ m. AreHoleInverse (locator ks) (holes es) m (lists_of filling.holes.items)) (sym c.in_ok-new.ensures.count) inverse;
        origins = c.in_ok-origins.ensures;
        run = c.in_ok-run_locator.ensures;
      });
      enough = subst (IsRepairable ks) c.in-Some.ensures.first (holes_determine ks es n (slices_of c.args.lost.now) c.in-Some.first.rise c.in-Some.first.some (omega (arith, fit, c.in-Some.ensures.count)) inverse.only);
    }
