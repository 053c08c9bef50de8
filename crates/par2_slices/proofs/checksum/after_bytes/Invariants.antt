use Rattle.par2_slices.proofs.Common.{◌≡◌, fold, take}
use Rattle.par2_spec.specs.Checksums as spec
use Rattle.par2_slices.proofs.checksum.after_bytes.Given as goal

abbrev pub invariant-loop-byte : goal.invariant-loop-byte
invariant-loop-byte l = l.after ≡ fold spec.crc_byte l.initial.after (take l.byte-index l.rest)
