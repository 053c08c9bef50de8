use Rattle.par2_transform.proofs.Common.{bit_numbers, point_number}
use Rattle.par2_transform.proofs.fourier.point_number.Goals as goal

pub returns : goal.returns
unfolding point_number bit_numbers
returns c = c.sum_at_bits.ensures
