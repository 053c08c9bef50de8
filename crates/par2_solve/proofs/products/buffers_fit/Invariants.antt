use Rattle.par2_solve.proofs.Common.{ℕ, ◌<◌, get_or, list_at, byte_lists}
use Rattle.par2_solve.proofs.products.buffers_fit.Given as goal

abbrev pub invariant-loop-i : goal.invariant-loop-i
invariant-loop-i l = (r k : ℕ) → r < l.i → get_or (list_at (byte_lists l.buffers) r) k 0 < 256
