use Rattle.par2_transform.proofs.Common.{EachColumn, IsSpreadAbove}
use Rattle.par2_transform.proofs.fourier.spread_above.Given as goal

abbrev pub invariant-loop-j : goal.invariant-loop-j
invariant-loop-j l = EachColumn (IsSpreadAbove l.i l.start l.j) l.initial.rows l.rows
