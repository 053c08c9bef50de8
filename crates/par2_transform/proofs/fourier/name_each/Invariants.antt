use Rattle.par2_transform.proofs.Common.{ℕ, ◌<◌, ◌≤◌, get_or}
use Rattle.par2_transform.proofs.fourier.name_each.Given as goal

abbrev pub invariant-loop-number : goal.invariant-loop-number
invariant-loop-number l = (j : ℕ) → j < l.number-index → get_or l.next (get_or l.numbers j 0) 0 ≤ get_or l.numbers j 0
