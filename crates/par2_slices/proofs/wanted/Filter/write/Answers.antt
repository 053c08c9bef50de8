use Rattle.par2_slices.proofs.Names.{arith, common_steps}
use Rattle.par2_slices.proofs.wanted.Filter.write.Goals as goal

pub invariant_of-self : goal.invariant_of-self
invariant_of-self c = grind (arith, common_steps)
