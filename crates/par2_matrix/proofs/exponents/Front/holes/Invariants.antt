use Rattle.par2_matrix.proofs.Names.{◌≡◌, filter, range_with_len, is_hole}
use Rattle.par2_matrix.proofs.exponents.Front.holes.Given as goal

abbrev pub invariant-loop-x : goal.invariant-loop-x
invariant-loop-x l = l.places.items ≡ filter (is_hole l.self.numbers.now) (range_with_len 0 l.x)
