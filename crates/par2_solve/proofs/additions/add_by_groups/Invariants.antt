use Rattle.par2_solve.proofs.Names.{◌≤◌, ◌-◌, get_or, length, lists_of, recovered, byte_lists, FirstAdded}
use Rattle.par2_solve.proofs.additions.add_by_groups.Given as goal

abbrev pub invariant-loop-at : goal.invariant-loop-at
invariant-loop-at l = record {
  added : FirstAdded l.targets.outputs.places.now l.targets.outputs.words l.at (λ t p. recovered (byte_lists l.transform.slices.now) (get_or l.targets.exponents.now t 0) p) (lists_of l.initial.buffers) (lists_of l.buffers);
  within : l.at ≤ length l.targets.exponents.now;
}

abbrev pub decreases-loop-at : goal.decreases-loop-at
decreases-loop-at l = length l.targets.exponents.now - l.at
