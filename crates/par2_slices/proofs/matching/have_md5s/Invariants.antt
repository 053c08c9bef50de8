use Rattle.par2_slices.proofs.Common.{◌*◌, min, length, HaveMd5s}
use Rattle.par2_slices.proofs.matching.have_md5s.Given as goal

abbrev pub invariant-loop-group : goal.invariant-loop-group
invariant-loop-group l = let its = l.fn.compared in HaveMd5s its.s its.bytes.now its.pairs.now 0 (min (l.group * 16) (length its.pairs.now))
