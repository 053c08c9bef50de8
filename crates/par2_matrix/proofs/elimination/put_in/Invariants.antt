use Rattle.par2_matrix.proofs.Names.{lists_of, ClearedBelow}
use Rattle.par2_matrix.proofs.elimination.put_in.Given as goal

abbrev pub invariant-loop-p : goal.invariant-loop-p
invariant-loop-p g l = ClearedBelow l.q l.row.items l.right.items (lists_of l.initial.rows) (lists_of l.initial.right_sides) (lists_of l.rows) (lists_of l.right_sides) l.p
