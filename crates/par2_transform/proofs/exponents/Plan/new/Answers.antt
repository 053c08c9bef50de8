use Rattle.par2_transform.proofs.Common.{arith}
use Rattle.par2_transform.proofs.exponents.Plan.new.Goals as goal

pub invariant_of-result-clause-fit : goal.invariant_of-result-clause-fit
invariant_of-result-clause-fit c = omega (arith, c.half_of-half.ensures.half, c.half_of-half.ensures.bounds, c.clamp-block.ensures)
