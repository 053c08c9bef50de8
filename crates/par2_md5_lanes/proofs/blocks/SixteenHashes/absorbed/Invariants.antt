use Rattle.par2_md5_lanes.proofs.Common.{◌≡◌, ◌<◌, ◌+◌, ℕ, slice_index, hash_behind, lane, buffer_at}
use Rattle.par2_md5_lanes.proofs.blocks.SixteenHashes.absorbed.Given as goal

abbrev pub invariant-loop-block : goal.invariant-loop-block
invariant-loop-block l = record {
  low : (k : ℕ) → k < 8 → lane slice_index k l.after.0 ≡ hash_behind (lane slice_index k l.fn.self.0) (buffer_at l.buffers k) l.block;
  high : (k : ℕ) → k < 8 → lane slice_index k l.after.1 ≡ hash_behind (lane slice_index k l.fn.self.1) (buffer_at l.buffers (8 + k)) l.block;
}
