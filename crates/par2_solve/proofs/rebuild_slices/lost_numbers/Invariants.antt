use Rattle.par2_solve.proofs.Common.{◌≡◌, ◌++◌, drop, lost_from}
use Rattle.par2_solve.proofs.rebuild_slices.lost_numbers.Given as goal

abbrev pub invariant-loop-k : goal.invariant-loop-k
invariant-loop-k l = l.lost.items ++ lost_from l.k (drop l.k l.known) ≡ lost_from 0 l.known
