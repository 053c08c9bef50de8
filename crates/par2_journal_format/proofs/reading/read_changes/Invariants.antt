use Rattle.par2_journal_format.proofs.Names.{change_at, SoFar}
use Rattle.par2_journal_format.proofs.reading.read_changes.Given as goal

abbrev pub invariant-loop : goal.invariant-loop
invariant-loop l = SoFar change_at l.count l.bytes l.changes l.counter l.rest
