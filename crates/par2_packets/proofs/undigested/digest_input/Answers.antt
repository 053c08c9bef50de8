use Rattle.par2_packets.proofs.Pieces.{part_from}
use Rattle.par2_packets.proofs.undigested.digest_input.Goals as goal

pub returns : goal.returns
returns c = part_from c.args.k c.args.len 32 c.args.packets.now c.requires.head
