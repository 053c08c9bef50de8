use Rattle.par2_journal_format.proofs.Names.{block_at, SoFar}
use Rattle.par2_journal_format.proofs.reading.read_digests.Given as goal

abbrev pub invariant-loop : goal.invariant-loop
invariant-loop l = SoFar (block_at 16) l.count l.bytes l.digests.items l.counter l.rest
