use Rattle.par2_slices.proofs.Checksums.{zeros_behind}
use Rattle.par2_slices.proofs.checksum.padded_crc32.Goals as goal

pub returns : goal.returns
returns c = zeros_behind c.args.bytes.now c.args.s c.after_bytes.result c.multiply.result c.after_bytes.ensures (c.multiply.ensures _ c.power_of_x.ensures)
