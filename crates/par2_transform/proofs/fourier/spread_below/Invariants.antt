use Rattle.par2_transform.proofs.Common.{EachColumn, IsSpreadBelow}
use Rattle.par2_transform.proofs.fourier.spread_below.Given as goal

abbrev pub invariant-loop-j : goal.invariant-loop-j
invariant-loop-j l = EachColumn (IsSpreadBelow l.i l.start l.j) l.initial.rows l.rows
