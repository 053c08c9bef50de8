use Rattle.par2_solve.proofs.Common.{lists_of, AreBlank}
use Rattle.par2_solve.proofs.rebuild_slices.reserved.Given as goal

abbrev pub invariant-loop-i : goal.invariant-loop-i
invariant-loop-i l = AreBlank 0 l._i (lists_of l.buffers.items)
