use Rattle.par2_transform.proofs.Common.{BlocksBecome, Gathers}
use Rattle.par2_transform.proofs.windows.gather_all.Given as goal

abbrev pub invariant-loop-j : goal.invariant-loop-j
invariant-loop-j l = BlocksBecome (Gathers l.a l.values) l.j l.initial.blocks l.blocks
