use Rattle.par2_transform.proofs.Common.{◌+◌, ◌-◌, ◌≤◌, lists_of, within, AddsAt, byte_lists, recovered}
use Rattle.par2_transform.proofs.recovery.Transform.add_recovery_slices_at.Given as goal

abbrev pub invariant-loop-from : goal.invariant-loop-from
invariant-loop-from l = record {
  added : AddsAt l.outputs.places.now l.outputs.words (λ t p. within 0 l.from t (recovered (byte_lists l.self.slices.now) (l.first + t) p)) (lists_of l.fn.buffers) (lists_of l.buffers);
  inside : l.from ≤ l.count;
}

abbrev pub decreases-loop-from : goal.decreases-loop-from
decreases-loop-from l = l.count - l.from
