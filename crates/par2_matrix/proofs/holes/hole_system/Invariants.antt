use Rattle.par2_matrix.specs.LostSlices.{AreHoleEquations}
use Rattle.par2_matrix.proofs.holes.hole_system.Given as goal

abbrev pub invariant-loop-u : goal.invariant-loop-u
invariant-loop-u l = AreHoleEquations l.locator l.places l.units l.u l.system
