use Rattle.par2_transform.proofs.Common.{suc, ◌^◌, EachColumn, AheadAdded}
use Rattle.par2_transform.proofs.fourier.add_upper_ahead.Given as goal

abbrev pub invariant-loop-j : goal.invariant-loop-j
invariant-loop-j l = EachColumn (AheadAdded l.i l.start (2 ^ l.i) (2 ^ suc l.i) l.j) l.initial.rows l.rows
