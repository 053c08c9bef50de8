use Rattle.par2_transform.proofs.Common.{basis, point}
use Rattle.par2_transform.proofs.fourier.point.Goals as goal

pub returns : goal.returns
unfolding point basis
returns c = c.sum_at_bits.ensures
