use Rattle.recovery_calls.proofs.Common.{ℕ, ◌≡◌, ◌*◌, ◌<◌, replicate, lists_of, place_at}
use Rattle.par2_solve.specs.Rebuilding.{output_at}
use Rattle.recovery_calls.proofs.outputs.are_blank.Given as goal

abbrev pub invariant-loop-t : goal.invariant-loop-t
invariant-loop-t l = (t : ℕ) → t < l.t → output_at (2 * l.words) (place_at l.places t) (lists_of l.buffers) ≡ replicate (2 * l.words) 0
