use Rattle.par2_slices.proofs.Names.{arith, writes}
use Rattle.par2_slices.proofs.checksum.slice_md5s.Goals as goal

pub loop-k-preserved : goal.loop-k-preserved
loop-k-preserved c = grind (arith, writes)
