use Rattle.recovery_calls.proofs.Common.{ℕ, ◌<◌, place_at, AreBeside}
use Rattle.recovery_calls.proofs.outputs.is_apart.Given as goal

abbrev pub invariant-loop-s : goal.invariant-loop-s
invariant-loop-s l = (s : ℕ) → s < l.s → AreBeside l.words (place_at l.places s) (place_at l.places l.t)
