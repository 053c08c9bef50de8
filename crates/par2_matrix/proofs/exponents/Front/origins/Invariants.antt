use Rattle.par2_matrix.specs.LostSlices.{AreOrigins}
use Rattle.par2_matrix.proofs.exponents.Front.origins.Given as goal

abbrev pub invariant-loop-x : goal.invariant-loop-x
invariant-loop-x l = AreOrigins l.self.numbers.now l.x l.origins.items
