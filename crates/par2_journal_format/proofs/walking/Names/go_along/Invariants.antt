use Rattle.par2_journal_format.proofs.Names.{Folder, change_of, AreNamesOf, names_in, IsSoFar, tried}
use Rattle.par2_journal_format.proofs.walking.Names.go_along.Given as goal

abbrev pub invariant-loop-change : goal.invariant-loop-change
invariant-loop-change l = (files : Folder) → AreNamesOf files (names_in l.fn.self) → IsSoFar change_of tried files l.changes l.change-index (names_in l.self)
