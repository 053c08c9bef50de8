use Rattle.par2_solve.proofs.Names.{Global, List, Vec, [], ap, ap₂, arith, constant, constant_at, each_more, get_or, get_or_default, is_inverse, length, length-lists_of, length-map, length_push, list_at, lists_of, map-append, quotient, slices_of, subst, sym, times, ℕ, ◌+◌, ◌<◌, ◌∙◌, ◌∷◌, ◌≡◌}
use Rattle.par2_solve.proofs.inverse.inverse_for_run.Goals as goal

pub returns : goal.returns
returns c =
    let lost = c.args.lost.now.numbers.now in let factors = c.in_ok-p.field-0.factors.items in let points = c.in_ok-p.ensures.points in
    let at_end : c.loop-j.j ≡ length lost = omega (arith, c.loop-j-test.false, c.loop-j.auto.j-end, ap length points, length-map lost constant, c.len-j-end.ensures) in
    is_inverse lost c.args.first factors (lists_of c.loop-j.rows.items) (slices_of c.args.lost.now) c.in_ok-p.ensures.factors (length-lists_of c.loop-j.rows.items ∙ c.loop-j.invariant.count ∙ at_end)
    (λ j low. c.loop-j.invariant.each j (omega (arith, low, at_end)) ∙ ap₂ (λ z q. times (get_or factors j 0) (quotient z q)) (ap (λ xs. get_or xs j 0) points ∙ constant_at lost j low) c.in_ok-p.ensures.p)

pub loop-j-preserved : goal.loop-j-preserved
loop-j-preserved c =
    let lost = c.args.lost.now.numbers.now in let made = c.in_ok-p.field-0 in let j = c.loop-j.j in let rows = c.loop-j.rows.items in
    let row = c.in_ok-scaled_quotient.field-0 in let row_at = λ (i : ℕ). times (get_or made.factors.items i 0) (quotient (get_or made.points.items i 0) made.p.items) in
    let low : j < length made.points.items = omega (arith, c.loop-j-test.true, c.len-j-end.ensures) in
    let within : j < length made.factors.items = omega (arith, low, c.in_ok-p.ensures.factors.count, ap length c.in_ok-p.ensures.points, length-map lost constant) in
    let row_is : row.items ≡ row_at j = c.in_ok-scaled_quotient.ensures ∙ ap₂ times (c.index.ensures ∙ sym (get_or_default made.factors.items j 0 _ within)) (ap₂ quotient (c.index-in-loop-j.ensures ∙ sym (get_or_default made.points.items j 0 _ low)) c.deref.ensures.value) in
    let new_is = ap lists_of c.in_ok-push.ensures.items ∙ map-append (λ (x : Vec ℕ Global). x.items) rows (row ∷ []) in
    record {
      count = ap (λ (xs : List (Vec ℕ Global)). length xs) c.in_ok-push.ensures.items ∙ length_push rows row ∙ ap (λ m. m + 1) c.loop-j.invariant.count;
      each = λ i below. subst (λ (xs : List (List ℕ)). list_at xs i ≡ row_at i) (sym new_is) (each_more (λ k xs. xs ≡ row_at k) [] (lists_of rows) row.items j (length-lists_of rows ∙ c.loop-j.invariant.count) c.loop-j.invariant.each row_is i below);
    }
