use Rattle.par2_matrix.proofs.Common.{AllEmpty, lists_of}
use Rattle.par2_matrix.proofs.elimination.empty_lists.Given as goal

abbrev pub invariant-loop-i : goal.invariant-loop-i
invariant-loop-i l = AllEmpty (lists_of l.lists.items) l._i
