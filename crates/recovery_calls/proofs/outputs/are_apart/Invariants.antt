use Rattle.recovery_calls.proofs.Common.{ℕ, ◌<◌, place_at, AreBeside}
use Rattle.recovery_calls.proofs.outputs.are_apart.Given as goal

abbrev pub invariant-loop-t : goal.invariant-loop-t
invariant-loop-t l = (t : ℕ) → t < l.t → (s : ℕ) → s < t → AreBeside l.words (place_at l.places s) (place_at l.places t)
