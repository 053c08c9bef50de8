use Rattle.par2_slices.proofs.Common.{◌≡◌, ℕ, ◌*◌, ◌-◌, ◌^◌, ◌%◌, steps}
use Rattle.par2_slices.proofs.checksum.multiply.Given as goal

abbrev pub invariant-loop-bit : goal.invariant-loop-bit
invariant-loop-bit l = (n : ℕ) → l.b ≡ steps n 0x80000000 → l.product ≡ steps n (l.a % 2 ^ l.bit * 2 ^ (32 - l.bit))
