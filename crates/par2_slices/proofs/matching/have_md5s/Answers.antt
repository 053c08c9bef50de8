use Rattle.par2_slices.proofs.Names.{arith, common_steps}
use Rattle.par2_slices.proofs.matching.have_md5s.Goals as goal

pub loop-group-preserved : goal.loop-group-preserved
loop-group-preserved c = grind (arith, common_steps)
