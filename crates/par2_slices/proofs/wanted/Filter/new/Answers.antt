use Rattle.par2_slices.proofs.Names.{arith, common_steps}
use Rattle.par2_slices.proofs.wanted.Filter.new.Goals as goal

pub invariant_of-result : goal.invariant_of-result
invariant_of-result c = grind (arith, common_steps)

pub returns-clause-empty : goal.returns-clause-empty
returns-clause-empty c = grind (arith, common_steps)
