use Rattle.par2_solve.proofs.Names.{ap, byte_lists, get_or, length, lists_of, picked, picked_sizes, rules, span_added, with_items_is, ◌∙◌, ◌≡◌}
use Rattle.par2_solve.proofs.additions.add_over_span.Goals as goal
use Rattle.par2_solve.proofs.additions.add_over_span.Goals.{In_ok-sums}

-- the sums are those of the exponents
those : (c : In_ok-sums) → lists_of c.in_ok-sums.sums.items ≡ picked (get_or c.args.targets.now.exponents.now 0 0) c.args.targets.now.exponents.now (lists_of c.add_recovery_slices.new.buffers)
those c =
    let size : length c.add_recovery_slices.new.buffers ≡ c.in_ok-all.all.len = search rules in
    c.in_ok-sums.ensures ∙ ap (λ xs. picked (get_or c.args.targets.now.exponents.now 0 0) c.args.targets.now.exponents.now (lists_of xs)) (c.deref.ensures.value ∙ with_items_is c.in_ok-all.all c.add_recovery_slices.new.buffers size)

pub add_sums-requires-clause-sizes : goal.add_sums-requires-clause-sizes
add_sums-requires-clause-sizes c r low =
    let are = ap lists_of c.deref-2.ensures.value ∙ those (goal.at.add_sums-requires-clause-sizes c).In_ok-sums in
    rw are
    (picked_sizes (get_or c.args.targets.now.exponents.now 0 0) c.args.count c.args.targets.now.outputs.words c.args.targets.now.exponents.now (byte_lists c.args.transform.now.slices.now) (lists_of c.as_mut_slice.result.now) (lists_of c.add_recovery_slices.new.buffers)
    (rw c.as_mut_slice.ensures.value c.in_ok-all.ensures) c.requires.span.within c.in_ok-add_recovery_slices.ensures r (rw (← are) low))

pub returns : goal.returns
returns c =
    let are = ap lists_of c.deref-2.ensures.value ∙ those (goal.at.returns c).In_ok-sums in
    span_added (get_or c.args.targets.now.exponents.now 0 0) c.args.count c.args.targets.now.outputs.words c.args.targets.now.exponents.now (byte_lists c.args.transform.now.slices.now) (lists_of c.as_mut_slice.result.now) (lists_of c.add_recovery_slices.new.buffers)
    (rw c.as_mut_slice.ensures.value c.in_ok-all.ensures) c.requires.span.within c.in_ok-add_recovery_slices.ensures
    c.args.targets.now.outputs.places.now (lists_of c.args.buffers.now) (lists_of c.add_sums.new.buffers) c.args.targets.now.count (rw (← are) c.add_sums.ensures)
