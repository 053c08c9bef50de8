use Rattle.par2_solve.proofs.Common.{◌≡◌, take, lists_of, byte_lists}
use Rattle.par2_solve.proofs.additions.with_recovery_slices.Given as goal

abbrev pub invariant-loop-k : goal.invariant-loop-k
invariant-loop-k l = lists_of l.sums.items ≡ take l.k (byte_lists l.kept.slices.now)
