use Rattle.par2_md5_lanes.proofs.Common.{◌≡◌, ◌<◌, ℕ, [], get_or, length, slice_index}
use Rattle.par2_md5_lanes.proofs.blocks.word_of_each.Given as goal

abbrev pub invariant-loop-k : goal.invariant-loop-k
invariant-loop-k g l = record {
  count : length l.words ≡ g.row.N;
  done : (j : ℕ) → j < l.k → slice_index l.words j ≡ slice_index (get_or l.hashes j []) l.i;
}
