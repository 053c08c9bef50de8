use Rattle.par2_slices.proofs.Common.{◌++◌, ◌*◌, replicate, Holds}
use Rattle.par2_slices.proofs.checksum.padded_md5.Given as goal

abbrev pub invariant-loop : goal.invariant-loop
invariant-loop l = Holds l.hasher (l.bytes ++ replicate (l.counter * 1024) 0)
