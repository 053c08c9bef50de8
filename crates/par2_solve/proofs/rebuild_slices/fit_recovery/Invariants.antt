use Rattle.par2_solve.proofs.Common.{ℕ, ◌<◌, get_or, map, list_at, recovered_of}
use Rattle.par2_solve.proofs.rebuild_slices.fit_recovery.Given as goal

abbrev pub invariant-loop-i : goal.invariant-loop-i
invariant-loop-i l = (r k : ℕ) → r < l.i → get_or (list_at (map (λ e. e.1) (recovered_of l.recovery)) r) k 0 < 256
