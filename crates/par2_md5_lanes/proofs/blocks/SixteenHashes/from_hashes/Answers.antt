use Rattle.par2_md5_lanes.proofs.Common.{arith, common_steps}
use Rattle.par2_md5_lanes.proofs.blocks.SixteenHashes.from_hashes.Goals as goal

pub returns : goal.returns
returns c = grind (arith, common_steps)
