use Rattle.par2_transform.proofs.Chirps.{AreFound}
use Rattle.par2_transform.proofs.exponents.slice_numbers.Given as goal

abbrev pub invariant-loop-exponent : goal.invariant-loop-exponent
invariant-loop-exponent l = AreFound l.n l.numbers.items l.found l.exponent
