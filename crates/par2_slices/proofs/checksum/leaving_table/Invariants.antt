use Rattle.par2_slices.proofs.Common.{◌≡◌, ℕ, ◌<◌, length, get_or, leaving}
use Rattle.par2_slices.proofs.checksum.leaving_table.Given as goal

abbrev pub invariant-loop-byte : goal.invariant-loop-byte
invariant-loop-byte l = record {
  len : length l.table ≡ 256;
  done : (k : ℕ) → k < l.byte → get_or l.table k 0 ≡ leaving l.s k;
}
