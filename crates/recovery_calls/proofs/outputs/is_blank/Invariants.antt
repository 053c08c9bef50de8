use Rattle.recovery_calls.proofs.Common.{ℕ, ◌≡◌, ◌<◌, get_or}
use Rattle.recovery_calls.proofs.outputs.is_blank.Given as goal

abbrev pub invariant-loop-k : goal.invariant-loop-k
invariant-loop-k l = (k : ℕ) → k < l.k → get_or l.bytes k 0 ≡ 0
