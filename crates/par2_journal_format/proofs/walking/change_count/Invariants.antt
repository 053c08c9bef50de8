use Rattle.par2_journal_format.proofs.Names.{◌≡◌, length, take, sum_by}
use Rattle.par2_journal_format.proofs.walking.change_count.Given as goal

abbrev pub invariant-loop-entry : goal.invariant-loop-entry
invariant-loop-entry l = l.count ≡ sum_by length (take l.entry-index l.entries)
