use Rattle.par2_solve.proofs.Common.{lists_of, Adds, byte_lists}
use Rattle.par2_solve.proofs.products.add_columns.Given as goal

abbrev pub invariant-loop-k : goal.invariant-loop-k
invariant-loop-k l = Adds (lists_of l.factors) (byte_lists l.sources) (lists_of l.initial.targets) (lists_of l.targets) l.columns.from l.columns.to l.k
