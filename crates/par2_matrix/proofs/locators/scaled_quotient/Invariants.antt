use Rattle.par2_matrix.proofs.Common.{ℕ, ◌≡◌, ◌≤◌, ◌<◌, ◌+◌, drop, length, get_or, mul, value}
use Rattle.par2_matrix.proofs.locators.scaled_quotient.Given as goal

abbrev pub invariant-loop-t : goal.invariant-loop-t
invariant-loop-t l = record {
  count : length l.row.items ≡ l.count;
  so_far : l.value ≡ value (drop (l.t + 1) l.p) l.c;
  each : (i : ℕ) → l.t ≤ i → i < l.count → get_or l.row.items i 0 ≡ mul l.factor (value (drop (i + 1) l.p) l.c);
}
