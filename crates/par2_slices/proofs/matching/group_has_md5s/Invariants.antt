use Rattle.par2_slices.proofs.Common.{◌+◌, HaveMd5s}
use Rattle.par2_slices.proofs.matching.group_has_md5s.Given as goal

abbrev pub invariant-loop-lane : goal.invariant-loop-lane
invariant-loop-lane l = HaveMd5s l.group.s l.group.bytes.now l.pairs l.group.first (l.group.first + l.lane)
