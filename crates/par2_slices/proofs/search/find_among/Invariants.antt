use Rattle.par2_slices.proofs.Common.{◌≡◌, ◌<◌, ℕ, [], length, map, take, answer_at, first_position, pair_at, IsTally}
use Rattle.par2_slices.proofs.search.find_among.Given as goal

abbrev pub invariant-loop-buffer : goal.invariant-loop-buffer
invariant-loop-buffer l = record {
  tally : IsTally l.wanted l.search.found.items l.search.left l.search.filter;
  empty : l.search.batch.items ≡ [];
  answers : (i : ℕ) → i < length l.wanted → answer_at l.search.found.items i ≡ first_position l.s (map (λ buffer. buffer.now) (take l.buffer l.buffers)) (pair_at l.wanted i);
}
