use Rattle.par2_matrix.proofs.Common.{◌≡◌, drop, with_roots}
use Rattle.par2_matrix.proofs.locators.with_roots.Given as goal

abbrev pub invariant-loop-i : goal.invariant-loop-i
invariant-loop-i l = l.p.items ≡ with_roots (drop l.i l.points)
