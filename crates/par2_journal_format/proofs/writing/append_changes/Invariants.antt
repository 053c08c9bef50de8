use Rattle.par2_journal_format.proofs.Names.{take, IsChange, change_bytes, changes_in, AreWritten}
use Rattle.par2_journal_format.proofs.writing.append_changes.Given as goal

abbrev pub invariant-loop-change : goal.invariant-loop-change
invariant-loop-change l = AreWritten IsChange change_bytes (take l.change-index (changes_in l.changes)) l.initial.out.items l.out.items
