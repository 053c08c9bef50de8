use Rattle.par2_transform.proofs.Common.{get_or, RowsGathered}
use Rattle.par2_transform.proofs.windows.gather_rows.Given as goal

abbrev pub invariant-loop-u : goal.invariant-loop-u
invariant-loop-u l = RowsGathered (λ u. get_or l.weights u 0) l.values l.u l.initial.sums l.sums
