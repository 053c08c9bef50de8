use Rattle.par2_transform.proofs.Common.{BlocksBecome, IsCleared}
use Rattle.par2_transform.proofs.windows.clear_all.Given as goal

abbrev pub invariant-loop-j : goal.invariant-loop-j
invariant-loop-j l = BlocksBecome IsCleared l.j l.initial.blocks l.blocks
