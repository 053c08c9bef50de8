use Rattle.par2_matrix.proofs.Common.{◌≡◌, ℕ, ◌<◌, word}
use Rattle.par2_matrix.proofs.elimination.first_nonzero.Given as goal

abbrev pub invariant-loop-i : goal.invariant-loop-i
invariant-loop-i l = (j : ℕ) → j < l.i → word j l.row ≡ 0
