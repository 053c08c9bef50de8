use Rattle.par2_slices.proofs.Common.{◌≡◌, ◌*◌, ◌-◌, ◌^◌, ◌/◌, steps}
use Rattle.par2_slices.proofs.checksum.power_of_x.Given as goal

abbrev pub invariant-loop-bit : goal.invariant-loop-bit
invariant-loop-bit l = l.power ≡ steps (8 * (l.count / 2 ^ (64 - l.bit))) 0x80000000
