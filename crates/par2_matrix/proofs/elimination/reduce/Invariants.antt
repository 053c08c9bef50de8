use Rattle.par2_matrix.proofs.Common.{length, ReducedBelow, echelon, lists_of}
use Rattle.par2_matrix.proofs.elimination.reduce.Given as goal

abbrev pub invariant-loop-p : goal.invariant-loop-p
invariant-loop-p g l = ReducedBelow (echelon (length l.rows) (length l.initial.right) 0 (lists_of l.rows) (lists_of l.right_sides)) l.initial.row l.initial.right l.row l.right l.p
