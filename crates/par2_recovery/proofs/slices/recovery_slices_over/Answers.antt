use Rattle.par2_recovery.proofs.Common.{◌≡◌, ◌*◌, ◌∙◌, List, ℕ, rules, sym, ap, subst, arith, length, lists_of, ◌/◌, with_items_is, length-range_with_len, AreWholeBuffers, byte_lists}
use Rattle.par2_transform.proofs.Additions.{whole_within}
use Rattle.par2_recovery.proofs.OwnBytes.{words_are, zeros_are, recovery_slices_are}
use Rattle.par2_recovery.proofs.slices.recovery_slices_over.Goals.{After-as_mut_slice}
use Rattle.par2_recovery.proofs.slices.recovery_slices_over.Goals as goal

halves : (c : After-as_mut_slice) → c.args.size ≡ 2 * (c.args.size / 2)
halves c = omega (arith, c.requires.even)

pub write_recovery_slices-requires-clause-count : goal.write_recovery_slices-requires-clause-count
write_recovery_slices-requires-clause-count c =
    rw (c.new-outputs.ensures.places, c.deref.ensures.value)
    (ap length (c.deref-2.ensures.value ∙ c.in_ok-exponents.ensures) ∙ length-range_with_len c.args.first c.args.count ∙ sym c.in_ok-places.ensures.count)

pub write_recovery_slices-requires-clause-room : goal.write_recovery_slices-requires-clause-room
write_recovery_slices-requires-clause-room c =
    let at = (goal.at.write_recovery_slices-requires-clause-room c).After-as_mut_slice in
    let old : List (List ℕ) = lists_of c.in_ok-buffers.buffers.items in
    let places = c.in_ok-places.places.items in
    rw (c.as_mut_slice.ensures.value, c.new-outputs.ensures.places, c.deref.ensures.value, c.new-outputs.ensures.words)
    (whole_within (c.args.size / 2) places old (subst (λ n. AreWholeBuffers n places) (sym c.in_ok-buffers.ensures.count) c.in_ok-places.ensures)
    (words_are c.args.size (c.args.size / 2) c.args.count places (halves at) c.in_ok-places.ensures old c.in_ok-buffers.ensures))

pub write_recovery_slices-requires-clause-zeros : goal.write_recovery_slices-requires-clause-zeros
write_recovery_slices-requires-clause-zeros c =
    let at = (goal.at.write_recovery_slices-requires-clause-zeros c).After-as_mut_slice in
    rw (c.as_mut_slice.ensures.value, c.new-outputs.ensures.places, c.deref.ensures.value, c.new-outputs.ensures.words)
    (zeros_are c.args.size (c.args.size / 2) c.args.count c.in_ok-places.places.items (halves at) c.in_ok-places.ensures (lists_of c.in_ok-buffers.buffers.items) c.in_ok-buffers.ensures)

pub returns : goal.returns
returns c =
    let at = (goal.at.returns c).After-as_mut_slice in
    let new = c.write_recovery_slices.new.buffers in
    let size : length new ≡ c.in_ok-buffers.buffers.len = search rules in
    rw (with_items_is c.in_ok-buffers.buffers new size)
    (recovery_slices_are c.args.size (c.args.size / 2) c.args.count c.in_ok-places.places.items (halves at) c.in_ok-places.ensures (lists_of c.in_ok-buffers.buffers.items) c.in_ok-buffers.ensures
    c.args.first (byte_lists c.args.slices.now) c.deref-2.result.now (lists_of new) (c.deref-2.ensures.value ∙ c.in_ok-exponents.ensures)
    (rw (c.as_mut_slice.ensures.value, c.new-outputs.ensures.places, c.deref.ensures.value, c.new-outputs.ensures.words) at c.in_ok-write_recovery_slices.ensures))
