use Rattle.par2_slices.proofs.Names.{rules, ◌∙◌, ap₂, bit_xor, sixteen_bytes}
use Rattle.par2_slices.proofs.checksum.after_sixteen.Goals as goal

pub returns : goal.returns
returns c =
    ap₂ bit_xor (ap₂ bit_xor (ap₂ bit_xor c.four_later.ensures c.four_later-2.ensures) c.four_later-3.ensures) c.four_later-4.ensures
    ∙ sixteen_bytes c.args.remainder c.from_le_bytes-4.result c.from_le_bytes-3.result c.from_le_bytes-2.result c.from_le_bytes.result c.args.bytes.now c.as_chunks.result.0.now (search rules) (search rules) (search rules) c.from_le_bytes-4.ensures c.from_le_bytes-3.ensures c.from_le_bytes-2.ensures c.from_le_bytes.ensures
