use Rattle.par2_transform.proofs.Names.{rules, ◌+◌, ◌-◌, ◌<◌, ◌≡◌, ◌∙◌, ap, arith, length, mul, lists_of, byte_lists, words_at, numerator, next_row_added, numerator-lt, one_times}
use Rattle.par2_transform.proofs.locator.Numerators.add_columns.Goals as goal

pub loop-t-preserved : goal.loop-t-preserved
loop-t-preserved c =
    let self = c.args.self.now in
    let l = c.loop-t in
    let sources = byte_lists c.args.sources.now in
    let numerators = c.sum.ensures.numerators in
    let low : l.t < length c.args.columns.now.outputs.places.now = search rules in
    next_row_added c.args.columns.now.outputs.places.now c.args.columns.now.outputs.words c.args.columns.now.from c.args.columns.now.to l.t (λ t p. numerator self.sequence.items (words_at sources p) t) c.row.result.now (lists_of c.args.buffers.now) (lists_of l.buffers) (lists_of c.add_products.new.buffers)
    l.invariant c.add_products.ensures
    (λ p first last.
    let place : c.args.columns.now.from + (p - c.args.columns.now.from) ≡ p = omega (arith, first) in
    ap (mul 1)
    (c.row.ensures.words (p - c.args.columns.now.from)
    ∙ numerators.each (p - c.args.columns.now.from) l.t (omega (arith, first, last, c.requires.fits.narrow, c.args.scratch.now.same_words)) (omega (arith, low, c.requires.count))
    ∙ ap (λ q. numerator self.sequence.items (words_at sources q) l.t) place)
    ∙ one_times (numerator self.sequence.items (words_at sources p) l.t) (numerator-lt self.sequence.items sources p l.t c.sum.ensures.bytes self.elements))
