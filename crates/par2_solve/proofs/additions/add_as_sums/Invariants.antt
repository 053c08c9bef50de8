use Rattle.par2_solve.proofs.Names.{◌-◌, ◌≤◌, length, lists_of, products, byte_lists, ColumnsAdded}
use Rattle.par2_solve.proofs.additions.add_as_sums.Given as goal

abbrev pub invariant-loop-from : goal.invariant-loop-from
invariant-loop-from l = record {
  added : ColumnsAdded l.targets.outputs.places.now l.targets.outputs.words l.from (products (length l.transform.slices.now) (lists_of l.rows.items) (byte_lists l.transform.slices.now)) (lists_of l.initial.buffers) (lists_of l.buffers);
  within : l.from ≤ l.targets.outputs.words;
}

abbrev pub decreases-loop-from : goal.decreases-loop-from
decreases-loop-from l = l.targets.outputs.words - l.from
