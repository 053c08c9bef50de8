use Rattle.par2_gf16.proofs.Words.{words_split}
use Rattle.par2_gf16.proofs.lanes.words_at.Goals as goal

pub returns : goal.returns
returns c =
    rw (c.exchanged.ensures, c.exchanged-2.ensures)
    (words_split c.args.bytes.now c.args.at c.lower_bytes.result c.higher_bytes.result c.requires c.type_inv.bytes c.lower_bytes.ensures c.higher_bytes.ensures)
