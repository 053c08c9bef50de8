use Rattle.par2_matrix.proofs.Common.{◌≡◌, ◌++◌, ◌∷◌, drop, plus, times, times_root}
use Rattle.par2_matrix.proofs.locators.times_root.Given as goal

abbrev pub invariant-loop-t : goal.invariant-loop-t
invariant-loop-t l = l.product.items ++ plus (times l.c (drop l.t l.p)) (l.before ∷ drop l.t l.p) ≡ times_root l.c l.p
