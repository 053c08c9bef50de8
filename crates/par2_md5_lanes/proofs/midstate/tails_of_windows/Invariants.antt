use Rattle.par2_md5_lanes.proofs.Common.{◌≡◌, ◌<◌, ℕ, length, take, buffer_at, digest_at, tail_len, tail_of}
use Rattle.par2_md5_lanes.proofs.midstate.tails_of_windows.Given as goal

abbrev pub invariant-loop-k : goal.invariant-loop-k
invariant-loop-k l = record {
  count : length l.tails ≡ 16;
  done : (j : ℕ) → j < l.k → take (tail_len l.len) (digest_at l.tails j) ≡ tail_of l.len (buffer_at l.windows j);
}
