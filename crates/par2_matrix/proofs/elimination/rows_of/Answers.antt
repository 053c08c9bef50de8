use Rattle.par2_matrix.proofs.Names.{AreByteRows, Global, HoldsRow, List, Vec, [], ap, arith, each_more, length, length_push, list_at, lists_of, map-append, subst, sym, ℕ, ◌%◌, ◌+◌, ◌∙◌, ◌∷◌, ◌≡◌}
use Rattle.par2_matrix.proofs.elimination.rows_of.Goals as goal

pub row_of-requires : goal.row_of-requires
row_of-requires c = subst (λ (bytes : List ℕ). length bytes % 2 ≡ 0) (sym c.buffer_at.ensures) (c.requires c.loop-r.r c.loop-r-test.true)

pub loop-r-preserved : goal.loop-r-preserved
loop-r-preserved c =
    let sides = lists_of c.args.sides.now in
    let r = c.loop-r.r in
    let rows = c.loop-r.rows.items in
    let row = c.in_ok-row_of.field-0.items in
    let new_is = ap lists_of c.in_ok-push.ensures.items ∙ map-append (λ (x : Vec ℕ Global). x.items) rows (c.in_ok-row_of.field-0 ∷ []) in
    subst (λ (new : List (List ℕ)). AreByteRows new sides (r + 1)) (sym new_is) (record {
      count = length_push (lists_of rows) row ∙ ap (λ m. m + 1) c.loop-r.invariant.count;
      each = each_more (λ i (xs : List ℕ). HoldsRow xs (list_at sides i) (length xs)) [] (lists_of rows) row r c.loop-r.invariant.count c.loop-r.invariant.each
          (subst (λ (bytes : List ℕ). HoldsRow row bytes (length row)) c.buffer_at.ensures c.in_ok-row_of.ensures);
    })

pub returns : goal.returns
returns c =
    let end : c.loop-r.r ≡ length c.args.sides.now = omega (arith, c.loop-r-test.false, c.loop-r.auto.r-end) in
    subst (AreByteRows (lists_of c.loop-r.rows.items) (lists_of c.args.sides.now)) end c.loop-r.invariant
