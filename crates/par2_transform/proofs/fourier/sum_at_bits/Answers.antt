use Rattle.par2_transform.proofs.Names.{◌≡◌, ◌*◌, sym, ap, ◌∙◌, arith, bit_xor, refl, slice_index, bit_at, field_sum, field_sum_bit_set, field_sum_bit_unset}
use Rattle.par2_transform.proofs.fourier.sum_at_bits.Goals.{then-x-i-eq1, else-x-i-eq1}
use Rattle.par2_transform.proofs.fourier.sum_at_bits.Goals as goal

pub loop-i-init : goal.loop-i-init
unfolding field_sum
loop-i-init c = refl

pub loop-i-preserved : goal.loop-i-preserved
loop-i-preserved c =
    let i = c.loop-i.i in
    let x = c.args.x in
    let f = slice_index c.args.table.now in
    elim c.if-x-i-eq1.branch [
      | then-x-i-eq1 w ↦ w.sum-is ∙ ap (λ s. bit_xor s (f i)) c.loop-i.invariant ∙ sym (field_sum_bit_set i x f w.if-x-i-eq1.true)
      | else-x-i-eq1 w ↦ w.sum-is ∙ c.loop-i.invariant ∙ sym (field_sum_bit_unset i x f w.if-x-i-eq1.false)
    ]

pub returns : goal.returns
returns c =
    let end : c.loop-i.i ≡ 16 = omega arith in
    c.loop-i.invariant ∙ ap (λ n. field_sum n (λ j. bit_at c.args.x j * slice_index c.args.table.now j)) end
