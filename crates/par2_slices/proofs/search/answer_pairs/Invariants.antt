use Rattle.par2_slices.proofs.Searching.{Settled}
use Rattle.par2_slices.proofs.search.answer_pairs.Given as goal

abbrev pub invariant-loop-place : goal.invariant-loop-place
invariant-loop-place l = Settled l.wanted l.md5 l.candidate.crc l.candidate.position l.initial.found.items l.place-items l.place-index l.found.items l.count
