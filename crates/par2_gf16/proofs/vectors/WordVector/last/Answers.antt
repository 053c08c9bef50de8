use Rattle.par2_gf16.proofs.Names.{◌∙◌, drop, length, refl, replicate, padded_word}
use Rattle.par2_gf16.proofs.vectors.WordVector.last.Goals as goal

pub returns : goal.returns
returns c = λ j low.
    let n = length c.args.bytes.now in
    c.from_bytes.ensures j low ∙ padded_word c.args.bytes.now c.copy_from_slice.new.self (drop n (replicate 64 0)) n j c.copy_from_slice.ensures.after refl
