use Rattle.par2_slices.proofs.Common.{◌≡◌, ◌+◌, first_pairs}
use Rattle.par2_slices.proofs.checksum.push_group.Given as goal

abbrev pub invariant-loop-k : goal.invariant-loop-k
invariant-loop-k l = l.pairs.items ≡ first_pairs l.group.s l.group.bytes.now (l.group.first + l.k)
