use Rattle.par2_matrix.proofs.Common.{ℕ, ◌<◌, ◌≤◌, ◌≡◌, bit_xor, get_or, length, mul}
use Rattle.par2_matrix.proofs.locators.step_each.Given as goal

abbrev pub invariant-loop-j : goal.invariant-loop-j
invariant-loop-j l =
    (length l.values ≡ length l.initial.values) × ((i : ℕ) → i < l.j → get_or l.values i 0 ≡ bit_xor l.coefficient (mul (get_or l.factors i 0) (get_or l.initial.values i 0))) × ((i : ℕ) → l.j ≤ i → get_or l.values i 0 ≡ get_or l.initial.values i 0)
