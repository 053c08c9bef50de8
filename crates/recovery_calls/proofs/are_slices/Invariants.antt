use Rattle.recovery_calls.proofs.Common.{ℕ, ◌<◌, get_or}
use Rattle.recovery_calls.proofs.are_slices.Given as goal

abbrev pub invariant-loop-i : goal.invariant-loop-i
invariant-loop-i l = (k : ℕ) → k < l.i → get_or l.numbers k 0 < 32768
