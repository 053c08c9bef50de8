use Rattle.par2_slices.proofs.Common.{◌≡◌, ℕ, ◌<◌, crc32, slice_at, pair_at}
use Rattle.par2_slices.proofs.matching.have_crc32s.Given as goal

abbrev pub invariant-loop-j : goal.invariant-loop-j
invariant-loop-j l = (k : ℕ) → k < l.j → crc32 (slice_at l.fn.compared.s l.fn.compared.bytes.now k) ≡ (pair_at l.fn.compared.pairs.now k).1
