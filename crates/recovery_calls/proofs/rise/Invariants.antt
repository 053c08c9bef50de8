use Rattle.recovery_calls.proofs.Common.{ℕ, ◌+◌, ◌<◌, get_or}
use Rattle.recovery_calls.proofs.rise.Given as goal

abbrev pub invariant-loop-i : goal.invariant-loop-i
invariant-loop-i l = (k : ℕ) → k + 1 < l.i → get_or l.exponents k 0 < get_or l.exponents (k + 1) 0
