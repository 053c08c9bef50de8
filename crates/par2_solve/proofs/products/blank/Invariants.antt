use Rattle.par2_solve.proofs.Common.{lists_of, AreBlank}
use Rattle.par2_solve.proofs.products.blank.Given as goal

abbrev pub invariant-loop-i : goal.invariant-loop-i
invariant-loop-i l = AreBlank l.size l._i (lists_of l.buffers.items)
