use Rattle.par2_matrix.proofs.Common.{lists_of, AreByteRows}
use Rattle.par2_matrix.proofs.elimination.rows_of.Given as goal

abbrev pub invariant-loop-r : goal.invariant-loop-r
invariant-loop-r l = AreByteRows (lists_of l.rows.items) (lists_of l.sides) l.r
