use Rattle.par2_slices.proofs.Common.{◌≡◌, ◌*◌, min, first_pairs}
use Rattle.par2_slices.proofs.checksum.pairs_of.Given as goal

abbrev pub invariant-loop-group : goal.invariant-loop-group
invariant-loop-group l = l.pairs.items ≡ first_pairs l.s l.bytes (min (l.group * 16) l.count)
