use Rattle.par2_md5_lanes.proofs.Common.{◌≡◌, ◌<◌, ℕ, length, digest_at, digest_bytes}
use Rattle.par2_md5_lanes.proofs.digests.Given as goal

abbrev pub invariant-loop-k : goal.invariant-loop-k
invariant-loop-k g l = record {
  count : length l.digests ≡ 16;
  done : (j : ℕ) → j < l.k → digest_at l.digests j ≡ digest_bytes (g.H.Hashes.at j l.hashes) 4;
}
