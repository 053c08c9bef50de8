use Rattle.par2_md5_lanes.proofs.Names.{◌≡◌, ◌<◌, ℕ, digest_at, get_or, length, no_bytes}
use Rattle.par2_md5_lanes.proofs.as_buffers.Given as goal

abbrev pub invariant-loop-k : goal.invariant-loop-k
invariant-loop-k g l = record {
  count : length l.buffers ≡ 16;
  bytes : (j : ℕ) → j < l.k → (get_or l.buffers j no_bytes).now ≡ digest_at l.arrays j;
  size : (j : ℕ) → j < l.k → length (get_or l.buffers j no_bytes).now ≡ g.row.N;
}
