use Rattle.par2_transform.proofs.Names.{ℕ, ◌+◌, ◌*◌, ◌%◌, ◌^◌, ◌≡◌, refl, sym, ap, ◌∙◌, arith, bit_xor, slice_index, powers_in, field_sum, field_sum_bit_set, field_sum_bit_unset, shifted}
use Rattle.par2_transform.proofs.fourier.sum_ahead.Goals.{then-powers-j-eq1, else-powers-j-eq1}
use Rattle.par2_transform.proofs.fourier.sum_ahead.Goals as goal

pub loop-j-preserved : goal.loop-j-preserved
loop-j-preserved c =
    let l = c.loop-j in
    let i = c.args.i in
    let at = c.args.at in
    let is = c.powers_in-powers.ensures in
    let part : 1 * 2 ^ l.j % 18446744073709551616 ≡ 2 ^ l.j = shifted l.j (omega arith) in
    let f : ℕ → ℕ = slice_index c.args.words.now in
    elim c.if-powers-j-eq1.branch [
      | then-powers-j-eq1 w ↦ w.sum-is ∙ ap (λ n. bit_xor l.sum (f (at + n))) part ∙ ap (λ s. bit_xor s (f (at + 2 ^ l.j))) l.invariant ∙ sym (field_sum_bit_set l.j (powers_in i) (λ j. f (at + 2 ^ j)) (rw (← is) w.if-powers-j-eq1.true))
      | else-powers-j-eq1 w ↦ w.sum-is ∙ l.invariant ∙ sym (field_sum_bit_unset l.j (powers_in i) (λ j. f (at + 2 ^ j)) (rw (← is) w.if-powers-j-eq1.false))
    ]

pub loop-j-init : goal.loop-j-init
unfolding field_sum
loop-j-init c = refl
