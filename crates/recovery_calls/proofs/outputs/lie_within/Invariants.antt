use Rattle.recovery_calls.proofs.Common.{ℕ, ◌+◌, ◌*◌, ◌<◌, ◌≤◌, length, list_at, lists_of, place_at}
use Rattle.recovery_calls.proofs.outputs.lie_within.Given as goal

abbrev pub invariant-loop-t : goal.invariant-loop-t
invariant-loop-t l =
    (t : ℕ) → t < l.t → ((place_at l.places t).buffer < length (lists_of l.buffers)) × ((place_at l.places t).at + 2 * l.words ≤ length (list_at (lists_of l.buffers) (place_at l.places t).buffer))
