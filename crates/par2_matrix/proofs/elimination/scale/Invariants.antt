use Rattle.par2_matrix.proofs.Common.{Scaled}
use Rattle.par2_matrix.proofs.elimination.scale.Given as goal

abbrev pub invariant-loop-i : goal.invariant-loop-i
invariant-loop-i l = Scaled l.factor l.initial.bytes l.bytes l.i
