use Rattle.par2_slices.proofs.Names.{◌∙◌, ◌/◌, ap, sym, bit_xor, one_byte}
use Rattle.par2_slices.proofs.checksum.after_byte.Goals as goal

pub returns : goal.returns
returns c =
    let mixed = bit_xor c.args.remainder c.args.byte in
    ap (λ t. bit_xor t (mixed / 256)) c.entry.ensures ∙ sym (one_byte c.args.remainder c.args.byte)
