use Rattle.par2_transform.proofs.Common.{EachBlock, HasSize, IsGathered, cut_of}
use Rattle.par2_transform.proofs.windows.Windows.gather.Given as goal

abbrev pub invariant-loop-a : goal.invariant-loop-a
invariant-loop-a l = record {
  rows : HasSize l.self.plan.levels l.self.plan.columns l.rows;
  blocks : EachBlock (IsGathered (cut_of l.self.plan) l.self.slices l.r l.columns.from l.a) l.fn.blocks l.blocks;
}
