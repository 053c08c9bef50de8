use Rattle.par2_matrix.proofs.Common.{ℕ, ◌<◌, ◌≡◌, length, get_or, word}
use Rattle.par2_matrix.proofs.elimination.row_of.Given as goal

abbrev pub invariant-loop-i : goal.invariant-loop-i
invariant-loop-i l = record {
  count : length l.row.items ≡ l.i;
  each : (p : ℕ) → p < l.i → word p l.bytes ≡ get_or l.row.items p 0;
}
