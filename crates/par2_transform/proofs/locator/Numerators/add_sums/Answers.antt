use Rattle.par2_transform.proofs.Names.{◌∙◌, ◌≡◌, List, AreApart, Place, arith, lists_of, no_words, numerator_word, are_whole, begins, columns_within, next_words, all_words, subst, sym, whole_apart}
use Rattle.par2_transform.proofs.locator.Numerators.add_sums.Goals as goal

pub new-outputs-requires : goal.new-outputs-requires
new-outputs-requires c = record { apart = subst (λ (ps : List Place). AreApart c.args.words ps) (sym c.deref.ensures.value) (whole_apart c.args.words _ c.in_ok-places.places.items c.in_ok-places.ensures) }

pub loop-k-init : goal.loop-k-init
loop-k-init c = record { levels = c.in_ok-rows.ensures.levels; words = c.in_ok-rows.ensures.words; added = no_words c.new-outputs.result c.columns_for-width.result (numerator_word c.args.self.now c.args.sources.now) (lists_of c.args.buffers.now) }

pub columns-columns-requires : goal.columns-columns-requires
columns-columns-requires c = begins c.new-outputs.result.words c.columns_for-width.result c.loop-k.k c.div_ceil-k-end.result c.columns_for-width.ensures.few.0 c.div_ceil-k-end.ensures c.loop-k-test.true

pub loop-k-preserved : goal.loop-k-preserved
loop-k-preserved c =
    let is = c.columns-columns.ensures in
    let e = c.add_columns.ensures in
    let low = begins c.new-outputs.result.words c.columns_for-width.result c.loop-k.k c.div_ceil-k-end.result c.columns_for-width.ensures.few.0 c.div_ceil-k-end.ensures c.loop-k-test.true in
    record { levels = e.size.levels ∙ c.loop-k.invariant.levels; words = e.size.words ∙ c.loop-k.invariant.words; added = next_words c.new-outputs.result c.columns-columns.result c.columns_for-width.result c.loop-k.k (numerator_word c.args.self.now c.args.sources.now) _ _ _ c.loop-k.invariant.added low is.outputs is.from is.to e.added }

pub returns : goal.returns
returns c =
    let outputs = c.new-outputs.result in
    let l = c.loop-k in
    let whole = are_whole c.args.words outputs c.in_ok-places.places.items c.args.buffers.now c.in_ok-places.ensures (c.new-outputs.ensures.places ∙ c.deref.ensures.value) c.new-outputs.ensures.words c.requires.size in
    let end : l.k ≡ c.div_ceil-k-end.result = omega (arith, c.loop-k-test.false, l.auto.k-end) in
    whole.each _ _ (all_words outputs c.columns_for-width.result l.k (numerator_word c.args.self.now c.args.sources.now) _ _ c.columns_for-width.ensures.few.0 (end ∙ c.div_ceil-k-end.ensures) l.invariant.added)

pub add_columns-requires-clause-fits : goal.add_columns-requires-clause-fits
add_columns-requires-clause-fits c =
    let outputs = c.new-outputs.result in
    let whole = are_whole c.args.words outputs c.in_ok-places.places.items c.args.buffers.now c.in_ok-places.ensures (c.new-outputs.ensures.places ∙ c.deref.ensures.value) c.new-outputs.ensures.words c.requires.size in
    let is = c.columns-columns.ensures in
    record { narrow = omega (arith, is.from, is.to, c.loop-k.invariant.words); room = columns_within outputs c.columns-columns.result _ (lists_of c.args.buffers.now) (lists_of c.loop-k.buffers) is.outputs c.loop-k.invariant.added whole.room }
