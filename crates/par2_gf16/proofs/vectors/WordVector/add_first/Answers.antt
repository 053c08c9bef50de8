use Rattle.par2_gf16.proofs.Names.{◌+◌, ◌-◌, ◌*◌, ◌<◌, ◌≡◌, length, bit_xor, ap, ap₂, ◌∙◌, arith, word_in, added_to_zeros, end_added, words_kept, zeros_read}
use Rattle.par2_gf16.proofs.vectors.WordVector.add_first.Goals as goal

pub returns : goal.returns
returns c =
    let n = c.args.n in
    let end = c.split_at_mut-end.result.1.now in
    let size : length c.copy_from_slice.new.self + 2 * n ≡ length c.args.dst.now = ap (λ m. m + 2 * n) c.copy_from_slice.ensures.len ∙ c.split_at_mut-end.ensures.back_len in
    rw c.split_at_mut-end.ensures.front
    (end_added (λ i. word_in c.args.self (i - n)) c.args.dst.now c.copy_from_slice.new.self n c.requires.some c.requires.few size
    (λ j room.
    let low : j < 32 = omega (arith, c.requires.few) in
    let same : j - 0 ≡ j = omega arith in
    let back : j ≡ n + j - n = omega arith in
    words_kept c.add_all.new.dst c.copy_from_slice.new.self (length end) j c.copy_from_slice.ensures.after (omega (arith, c.split_at_mut-end.ensures.back_len))
    ∙ added_to_zeros (λ i. word_in c.plus.result (i - 0)) _ c.add_all.new.dst 32 j (zeros_read 64) (omega arith) low c.add_all.ensures
    ∙ ap (word_in c.plus.result) same ∙ c.plus.ensures.sums j low
    ∙ ap₂ bit_xor (c.padded.ensures j low) (ap (word_in c.args.self) back)))
