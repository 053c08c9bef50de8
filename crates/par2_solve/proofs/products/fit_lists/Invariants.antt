use Rattle.par2_solve.proofs.Common.{ℕ, ◌<◌, get_or, list_at, lists_of}
use Rattle.par2_solve.proofs.products.fit_lists.Given as goal

abbrev pub invariant-loop-i : goal.invariant-loop-i
invariant-loop-i l = (r k : ℕ) → r < l.i → get_or (list_at (lists_of l.buffers) r) k 0 < 256
