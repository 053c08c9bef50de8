use Rattle.par2_journal_format.proofs.Names.{leads, List, Bor, Change, names_in, IsSoFar}
use Rattle.par2_journal_format.proofs.walking.can_walk.Given as goal

abbrev pub invariant-loop-entry : goal.invariant-loop-entry
invariant-loop-entry l = IsSoFar (λ (e : Bor (List Change)). e.now) leads l.folder.files l.entries l.entry-index (names_in l.names)
