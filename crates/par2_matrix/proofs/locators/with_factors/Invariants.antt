use Rattle.par2_matrix.specs.LostSlices.{AreFactors}
use Rattle.par2_matrix.proofs.locators.with_factors.Given as goal

abbrev pub invariant-loop-j : goal.invariant-loop-j
invariant-loop-j l = AreFactors l.first l.lost.numbers.now l.factors.items l.j
