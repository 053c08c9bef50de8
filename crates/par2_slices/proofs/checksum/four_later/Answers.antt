use Rattle.par2_slices.proofs.Checksums.{by_four_tables}
use Rattle.par2_slices.proofs.checksum.four_later.Goals as goal

pub returns : goal.returns
returns c = by_four_tables c.args.word c.args.later c.entry.result c.entry-2.result c.entry-3.result c.entry-4.result c.to_le_bytes.result c.ranges.word.fits c.to_le_bytes.ensures c.entry.ensures c.entry-2.ensures c.entry-3.ensures c.entry-4.ensures
