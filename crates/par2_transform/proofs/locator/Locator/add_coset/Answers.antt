use Rattle.par2_transform.proofs.Names.{◌+◌, ◌-◌, ◌*◌, ◌/◌, ◌%◌, ◌^◌, ◌<◌, ◌≤◌, ◌≡◌, ◌∙◌, List, ℕ, ap, subst, slice_index, AddsAt, AreCopied, AreListedValues, EachColumn, sym, arith, rules, length, get_or, get_or_default, mul, lists_of, byte_lists, within, column, in_coset, quotient_word, next_point, given_is, less_rows, number_in_coset, point_outside, point_taken, shifted_most}
use Rattle.par2_transform.proofs.locator.Locator.add_coset.Goals.{then-number-self, else-number-self}
use Rattle.par2_transform.proofs.locator.Locator.add_coset.Goals as goal

pub row-row-requires : goal.row-row-requires
row-row-requires c =
    let self = c.args.self.now in
    let j = c.loop-j.j in
    let low : j < length c.args.columns.now.outputs.places.now = search rules in
    let is : c.index.result.now ≡ get_or self.numbers.items j 0 = c.index.ensures ∙ get_or_default self.numbers.items j c.index.result.now 0 (omega (arith, low, c.requires.serves.count, self.numbered.count)) in
    let here = number_in_coset self.levels c.args.coset c.index.result.now (omega (arith, is, self.numbered.small j)) c.if-number-self.true in
    let levels = c.values_in_coset.ensures.levels ∙ c.copy_from.ensures.levels ∙ c.args.scratch.now.same_levels ∙ c.requires.serves.levels in
    let more : 2 ^ self.levels ≤ 2 ^ c.values_in_coset.new.rows.levels = less_rows self.levels c.values_in_coset.new.rows.levels (omega (arith, levels, self.few)) in
    omega (arith, here, more)

pub loop-j-preserved : goal.loop-j-preserved
loop-j-preserved c =
    let self = c.args.self.now in
    let k = self.levels in
    let coset = c.args.coset in
    let columns = c.args.columns.now in
    let sources = byte_lists c.args.sources.now in
    let rows = c.values_in_coset.new.rows in
    let mid = c.copy_from.new.self in
    let j = c.loop-j.j in
    let before = lists_of c.loop-j.buffers in
    let value = λ (t p : ℕ). mul (get_or self.factors.items t 0) (column rows (p - columns.from) (get_or self.numbers.items t 0 - coset * 2 ^ k)) in
    let low : j < length columns.outputs.places.now = search rules in
    let is : c.index.result.now ≡ get_or self.numbers.items j 0 = c.index.ensures ∙ get_or_default self.numbers.items j c.index.result.now 0 (omega (arith, low, c.requires.serves.count, self.numbered.count)) in
    let next = λ (new : List (List ℕ)) (added : AddsAt columns.outputs.places.now columns.outputs.words (λ t p. within j (j + 1) t (in_coset self.numbers.items k coset j (within columns.from columns.to p (value j p)))) before new).
    next_point columns.outputs.places.now columns.outputs.words self.numbers.items k coset columns.from columns.to j (quotient_word self c.args.sources.now) value (lists_of c.args.buffers.now) before new c.loop-j.invariant added
    (λ p from_here high first last.
    given_is self.numerators.sequence.items self.points.items self.factors.items self.numbers.items self.next.items sources k coset columns.from c.args.scratch.now.rows c.args.scratch.now.sums mid rows
    c.requires.bytes self.numerators.elements self.points_fit self.factors_fit self.numbered
    (subst (λ n. AreCopied n c.args.scratch.now.rows c.args.scratch.now.sums mid) (shifted_most k (omega (arith, self.few, self.numerators.few))) c.copy_from.ensures)
    (subst (λ (xs : List ℕ). EachColumn (AreListedValues (slice_index xs) k coset) mid rows) c.deref.ensures.value c.values_in_coset.ensures) (sym c.args.scratch.now.same_words) c.requires.numerators
    j p (omega (arith, low, c.requires.serves.count)) from_here (omega (arith, high, c.requires.serves.fits.narrow, c.args.scratch.now.same_words)) first last) in
    elim c.if-number-self.branch [
      | then-number-self w ↦
          let here = number_in_coset k coset c.index.result.now (omega (arith, is, self.numbered.small j)) w.if-number-self.true in
          let factor = w.index-then-number-self.ensures ∙ get_or_default self.factors.items j w.index-then-number-self.result.now 0 (omega (arith, low, c.requires.serves.count, self.factors_count)) in
          rw w.buffers-is
          (next (lists_of w.add_products.new.buffers)
          (point_taken columns.outputs.places.now columns.outputs.words self.numbers.items k coset j columns.from columns.to w.index-then-number-self.result.now (get_or self.factors.items j 0)
          (c.index.result.now - coset * 2 ^ k % 18446744073709551616) w.row-row.result.now rows before (lists_of w.add_products.new.buffers) factor w.row-row.ensures.words (omega (arith, here, is)) (omega (arith, here, is)) (omega (arith, here, is)) w.add_products.ensures))
      | else-number-self w ↦
          rw w.buffers-is
          (next before (point_outside columns.outputs.places.now columns.outputs.words self.numbers.items k coset j (λ p. within columns.from columns.to p (value j p)) before (λ e. w.if-number-self.false (ap (λ n. n / 2 ^ k) is ∙ e))))
    ]
