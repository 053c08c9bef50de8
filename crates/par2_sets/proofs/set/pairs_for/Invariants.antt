use Rattle.par2_sets.proofs.Common.{◌≡◌, take}
use Rattle.par2_sets.proofs.set.pairs_for.Given as goal

abbrev pub invariant-loop-k : goal.invariant-loop-k
invariant-loop-k l = l.pairs.items ≡ take l.k l.checksums.pairs
