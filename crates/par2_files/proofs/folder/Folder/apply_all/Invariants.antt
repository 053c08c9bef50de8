use Rattle.par2_files.proofs.Names.{change_of, IsOnItsWay}
use Rattle.par2_files.proofs.folder.Folder.apply_all.Given as goal

abbrev pub invariant-loop-change : goal.invariant-loop-change
invariant-loop-change l = IsOnItsWay change_of l.fn.self l.self l.fn.changes l.changes l.change-index
