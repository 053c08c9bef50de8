use Rattle.par2_transform.proofs.Names.{◌+◌, length, lists_of, CoverOutputs, HasSize, cut_of, recovered, WordsAdded}
use Rattle.par2_transform.proofs.recovery.Transform.add_group.Given as goal

abbrev pub invariant-loop-k : goal.invariant-loop-k
invariant-loop-k l = record {
  rows : HasSize l.plan.levels l.plan.columns l.rows;
  cover : CoverOutputs (cut_of l.plan) l.plan.columns l.windows.first l.plan.block (length l.outputs.places.now) l.blocks.items;
  added : WordsAdded l.outputs l.plan.columns (λ t p. recovered l.windows.slices (l.windows.first + t) p) l.k (lists_of l.fn.buffers) (lists_of l.buffers);
}
