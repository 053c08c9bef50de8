use Rattle.par2_gf16.proofs.Names.{rules, ap₂, ◌∙◌, bit_xor, product_of_nibbles}
use Rattle.par2_gf16.proofs.factor.Factor.times.Goals as goal

pub returns : goal.returns
returns c = λ j low.
    let it = c.self.inside in
    let words = c.args.words in
    rw (← c.self.view_is)
    (c.plus-3.ensures.sums j low
    ∙ ap₂ bit_xor (c.plus.ensures.sums j low ∙ ap₂ bit_xor (c.times-first.ensures j low) (c.times-second.ensures j low)) (c.plus-2.ensures.sums j low ∙ ap₂ bit_xor (c.times-third.ensures j low) (c.times-fourth.ensures j low))
    ∙ product_of_nibbles it.first.element it.second.element it.third.element it.fourth.element words.low words.high _ _ _ _ j low it.first.fits c.self.invariant.0 c.self.invariant.1 c.self.invariant.2
    (search rules) (search rules) (search rules) (search rules) c.low_nibbles.ensures.value c.high_nibbles.ensures.value c.low_nibbles-2.ensures.value c.high_nibbles-2.ensures.value)
