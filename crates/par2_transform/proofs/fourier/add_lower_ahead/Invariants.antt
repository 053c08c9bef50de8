use Rattle.par2_transform.proofs.Common.{◌^◌, EachColumn, AheadAdded}
use Rattle.par2_transform.proofs.fourier.add_lower_ahead.Given as goal

abbrev pub invariant-loop-j : goal.invariant-loop-j
invariant-loop-j l = EachColumn (AheadAdded l.i l.start 0 (2 ^ l.i) l.j) l.initial.rows l.rows
