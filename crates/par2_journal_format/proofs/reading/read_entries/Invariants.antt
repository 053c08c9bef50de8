use Rattle.par2_journal_format.proofs.Names.{entry_at, SoFar}
use Rattle.par2_journal_format.proofs.reading.read_entries.Given as goal

abbrev pub invariant-loop : goal.invariant-loop
invariant-loop l = SoFar entry_at l.count l.bytes l.entries.items l.counter l.rest
