use Rattle.par2_slices.proofs.Common.{◌≡◌, ℕ, ◌+◌, ◌<◌, length, md5, slice_at, digest_at}
use Rattle.par2_slices.proofs.checksum.slice_md5s.Given as goal

abbrev pub invariant-loop-k : goal.invariant-loop-k
invariant-loop-k l = record {
  len : length l.md5s ≡ 16;
  done : (j : ℕ) → j < l.k → digest_at l.md5s j ≡ md5 (slice_at l.group.s l.group.bytes.now (l.group.first + j));
}
