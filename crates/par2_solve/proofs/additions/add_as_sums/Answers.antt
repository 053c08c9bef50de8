use Rattle.par2_solve.proofs.Names.{Global, List, Vec, length-lists_of, all_columns_added, ap, arith, byte_lists, coefficients, length, length-byte_lists, length-map, lists_of, many_windows, next_columns, products, products_are, range_with_len, rows_long, still_within, sums_are, sym, ℕ, ◌∙◌}
use Rattle.std.proofs.lemmas.Grind.{common_steps}
use Rattle.par2_solve.proofs.additions.add_as_sums.Goals as goal

pub products_of-requires : goal.products_of-requires
products_of-requires c = rw (many_windows _ _ c.args.transform.now.slices.now c.deref-in-loop-from.result.now (ap byte_lists c.deref-in-loop-from.ensures.value ∙ c.in_ok-windows.ensures)) (rows_long _ c.args.targets.now.exponents.now _ (ap lists_of c.deref.ensures.value ∙ c.in_ok-rows.ensures))

pub loop-from-preserved : goal.loop-from-preserved
loop-from-preserved c =
    let slices = c.args.transform.now.slices.now in
    record {
      added = next_columns c.args.targets.now.outputs.places.now c.args.targets.now.outputs.words c.loop-from.from _ _ (lists_of c.args.buffers.now) (lists_of c.loop-from.buffers) (lists_of c.add_sums.new.buffers) (omega arith) c.loop-from.invariant.added
          (sums_are c.args.targets.now.outputs.places.now c.args.targets.now.outputs.words c.loop-from.from _ (length slices) (lists_of c.in_ok-rows.rows.items) (byte_lists slices) (byte_lists c.deref-in-loop-from.result.now) (lists_of c.deref-in-loop-from-2.result.now) (lists_of c.loop-from.buffers) (lists_of c.add_sums.new.buffers) (omega arith)
          (ap byte_lists c.deref-in-loop-from.ensures.value ∙ c.in_ok-windows.ensures) (sym (length-byte_lists slices)) (ap length c.in_ok-rows.ensures ∙ length-map c.args.targets.now.exponents.now (coefficients (range_with_len 0 (length slices))) ∙ c.args.targets.now.count) (rw (c.deref.ensures.value, ← c.deref-in-loop-from-2.ensures.value) at c.in_ok-sums.ensures) c.add_sums.ensures);
      within = omega arith;
    }

pub returns : goal.returns
returns c =
    let n = length c.args.transform.now.slices.now in let slices = byte_lists c.args.transform.now.slices.now in let rows = lists_of c.in_ok-rows.rows.items in
    let was = lists_of c.args.buffers.now in let new = lists_of c.loop-from.buffers in
    products_are n c.args.targets.now.outputs.words c.args.targets.now.exponents.now rows slices was new c.args.targets.now.outputs.places.now c.in_ok-rows.ensures (sym (length-byte_lists c.args.transform.now.slices.now)) c.args.targets.now.count
    (all_columns_added c.args.targets.now.outputs.places.now c.args.targets.now.outputs.words c.loop-from.from (products n rows slices) was new (omega arith) c.loop-from.invariant.added)

pub add_sums-requires-clause-room : goal.add_sums-requires-clause-room
add_sums-requires-clause-room c = still_within c.args.targets.now.outputs.places.now c.args.targets.now.outputs.words c.args.targets.now.outputs.words _ (lists_of c.args.buffers.now) (lists_of c.loop-from.buffers) c.loop-from.invariant.added c.requires.room

pub add_sums-requires-clause-count : goal.add_sums-requires-clause-count
add_sums-requires-clause-count c =
    ap (λ (xs : List (Vec ℕ Global)). length xs) c.deref-in-loop-from-2.ensures.value ∙ sym (length-lists_of c.in_ok-sums.sums.items) ∙ c.in_ok-sums.ensures.count ∙ ap (λ (xs : List (Vec ℕ Global)). length (lists_of xs)) c.deref.ensures.value
    ∙ ap length c.in_ok-rows.ensures ∙ length-map c.args.targets.now.exponents.now (coefficients (range_with_len 0 (length c.args.transform.now.slices.now))) ∙ c.args.targets.now.count

pub loop-from-init : goal.loop-from-init
loop-from-init c = grind (arith, common_steps)
