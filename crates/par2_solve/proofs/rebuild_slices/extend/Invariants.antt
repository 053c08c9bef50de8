use Rattle.par2_solve.proofs.Common.{lists_of, AreExtended}
use Rattle.par2_solve.proofs.rebuild_slices.extend.Given as goal

abbrev pub invariant-loop-r : goal.invariant-loop-r
invariant-loop-r l = AreExtended (lists_of l.initial.buffers) (lists_of l.blocks) (lists_of l.buffers) l.r
