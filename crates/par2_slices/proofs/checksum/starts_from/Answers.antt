use Rattle.par2_slices.proofs.Names.{arith, common_steps}
use Rattle.par2_slices.proofs.checksum.starts_from.Goals as goal

pub returns : goal.returns
returns c = grind (arith, common_steps)
