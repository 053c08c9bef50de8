use Rattle.par2_md5_lanes.proofs.Common.{arith}
use Rattle.par2_md5_lanes.proofs.blocks.words_of_eight.Goals as goal

pub returns : goal.returns
returns c = grind arith
