use Rattle.par2_md5_lanes.proofs.Names.{◌≡◌, ◌<◌, ℕ, drop, get_or, length, slice_index, take, no_bytes}
use Rattle.par2_md5_lanes.proofs.windows.Given as goal

abbrev pub invariant-loop-k : goal.invariant-loop-k
invariant-loop-k l = record {
  count : length l.windows ≡ 16;
  done : (j : ℕ) → j < l.k → (get_or l.windows j no_bytes).now ≡ take l.len (drop (slice_index l.starts j) l.bytes);
}
