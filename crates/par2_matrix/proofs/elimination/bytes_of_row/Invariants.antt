use Rattle.par2_matrix.proofs.Common.{HoldsRow}
use Rattle.par2_matrix.proofs.elimination.bytes_of_row.Given as goal

abbrev pub invariant-loop-i : goal.invariant-loop-i
invariant-loop-i l = HoldsRow l.row l.bytes.items l.i
