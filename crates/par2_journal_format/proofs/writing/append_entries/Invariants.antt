use Rattle.par2_journal_format.proofs.Names.{take, IsEntry, entry_bytes, AreWritten}
use Rattle.par2_journal_format.proofs.writing.append_entries.Given as goal

abbrev pub invariant-loop-entry : goal.invariant-loop-entry
invariant-loop-entry l = AreWritten IsEntry entry_bytes (take l.entry-index l.entries) l.initial.out.items l.out.items
