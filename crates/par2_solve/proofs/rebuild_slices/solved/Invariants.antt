use Rattle.par2_solve.proofs.Names.{◌≡◌, ◌≤◌, ◌-◌, ◌%◌, lists_of, syndrome, byte_lists, AreSolvedBy}
use Rattle.par2_solve.proofs.rebuild_slices.solved.Given as goal

abbrev pub invariant-loop-from : goal.invariant-loop-from
invariant-loop-from l = record {
  solved : AreSolvedBy l.inverse l.from l.kept.exponents.now (syndrome l.kept.exponents.now (byte_lists l.transform.slices.now) (byte_lists l.kept.slices.now)) (lists_of l.buffers.items);
  even : l.from % 2 ≡ 0;
  within : l.from ≤ l.size.bytes;
}

abbrev pub decreases-loop-from : goal.decreases-loop-from
decreases-loop-from l = l.size.bytes - l.from
