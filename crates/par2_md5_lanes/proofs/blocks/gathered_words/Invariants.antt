use Rattle.par2_md5_lanes.proofs.Common.{◌≡◌, ◌<◌, ℕ, length, slice_index, buffer_at, word_at}
use Rattle.par2_md5_lanes.proofs.blocks.gathered_words.Given as goal

abbrev pub invariant-loop-k : goal.invariant-loop-k
invariant-loop-k g l = record {
  count : length l.words ≡ g.row.N;
  done : (j : ℕ) → j < l.k → slice_index l.words j ≡ word_at (buffer_at l.buffers j) l.offset;
}
