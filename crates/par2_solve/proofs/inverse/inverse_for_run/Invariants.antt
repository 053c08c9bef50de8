use Rattle.par2_solve.proofs.Common.{ℕ, ◌≡◌, ◌<◌, length, get_or, list_at, lists_of, times, quotient}
use Rattle.par2_solve.proofs.inverse.inverse_for_run.Given as goal

abbrev pub invariant-loop-j : goal.invariant-loop-j
invariant-loop-j l = record {
  count : length l.rows.items ≡ l.j;
  each : (j : ℕ) → j < l.j → list_at (lists_of l.rows.items) j ≡ times (get_or l.factors.items j 0) (quotient (get_or l.points.items j 0) l.p.items);
}
