use Rattle.par2_slices.proofs.Common.{◌≡◌, fold, take, concat}
use Rattle.par2_spec.specs.Checksums as spec
use Rattle.par2_slices.proofs.checksum.after_groups.Given as goal

abbrev pub invariant-loop-group : goal.invariant-loop-group
invariant-loop-group l = l.after ≡ fold spec.crc_byte l.fn.remainder (concat (take l.group-index l.groups))
