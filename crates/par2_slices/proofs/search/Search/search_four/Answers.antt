use Rattle.par2_slices.proofs.Names.{arith, common_steps}
use Rattle.par2_slices.proofs.search.Search.search_four.Goals as goal

pub loop-k-preserved : goal.loop-k-preserved
loop-k-preserved g c = grind (arith, common_steps)
