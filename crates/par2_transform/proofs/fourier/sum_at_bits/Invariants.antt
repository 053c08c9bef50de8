use Rattle.par2_transform.proofs.Common.{◌≡◌, ◌*◌, bit_at, field_sum, slice_index}
use Rattle.par2_transform.proofs.fourier.sum_at_bits.Given as goal

abbrev pub invariant-loop-i : goal.invariant-loop-i
invariant-loop-i l = l.sum ≡ field_sum l.i (λ j. bit_at l.x j * slice_index l.table j)
