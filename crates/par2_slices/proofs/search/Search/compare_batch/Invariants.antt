use Rattle.par2_slices.proofs.Common.{◌≡◌, ℕ, ◌<◌, [], length, drop, answer_at, pair_at, after_candidates, IsTally}
use Rattle.par2_slices.proofs.search.Search.compare_batch.Given as goal

abbrev pub invariant-loop-k : goal.invariant-loop-k
invariant-loop-k l = record {
  tally : IsTally l.scan.wanted.now l.self.found.items l.self.left l.self.filter;
  each : (i : ℕ) → i < length l.scan.wanted.now → after_candidates l.scan (pair_at l.scan.wanted.now i) (drop l.k l.candidates) (answer_at l.self.found.items i) ≡ after_candidates l.scan (pair_at l.scan.wanted.now i) l.candidates (answer_at l.initial.self.found.items i);
  batch : l.self.batch.items ≡ [];
}
