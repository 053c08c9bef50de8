use Rattle.par2_matrix.proofs.Common.{ℕ, ◌*◌, ◌<◌, ◌≡◌, drop, get_or, length, quotient, value}
use Rattle.par2_matrix.proofs.locators.derivatives.Given as goal

abbrev pub invariant-loop-k : goal.invariant-loop-k
invariant-loop-k l =
    (length l.values.items ≡ length l.points) × ((j : ℕ) → j < length l.points → let c = get_or l.points j 0 in get_or l.values.items j 0 ≡ value (quotient c (drop (2 * l.k) l.p)) c)
