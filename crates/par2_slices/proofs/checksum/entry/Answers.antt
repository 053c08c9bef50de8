use Rattle.par2_slices.proofs.Checksums.{entry_is}
use Rattle.par2_slices.proofs.checksum.entry.Goals as goal

pub returns : goal.returns
returns c = entry_is c.args.table c.args.byte _ _ c.requires.table c.ranges.byte.fits
