use Rattle.par2_md5_lanes.proofs.Common.{◌≡◌, ◌<◌, ℕ, hash_behind, lane, slice_index, buffer_at}
use Rattle.par2_md5_lanes.proofs.blocks.HashStateSimdU32Hashes.absorbed.Given as goal

abbrev pub invariant-loop-block : goal.invariant-loop-block
invariant-loop-block g l =
    (k : ℕ) → k < g.row.N → lane slice_index k l.after ≡ hash_behind (lane slice_index k l.fn.self) (buffer_at l.buffers k) l.block
