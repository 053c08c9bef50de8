use Rattle.par2_transform.proofs.Names.{rules, ◌-◌, ◌^◌, ◌<◌, ◌≡◌, ◌∙◌, ap, sym, subst, arith, length, AreCopied, EachColumn, Grid, lists_of, byte_lists, words_at, quotient_sum, wider_fit, HoldNumerators, IsCombination, combinations_of, shifted_most, next_coset, all_cosets}
use Rattle.par2_transform.proofs.locator.Locator.add_columns.Goals as goal

pub add_coset-requires : goal.add_coset-requires
add_coset-requires c =
    let self = c.args.self.now in
    let l = c.loop-coset in
    let was = c.args.scratch.now in
    let mid = c.sum.new.scratch in
    let numerators = c.sum.ensures.numerators in
    let n = length self.numerators.sequence.items in
    let many : c.len-count.result ≡ n = search rules in
    let copied = c.copy_from.ensures in
    let combinations = c.to_combinations.ensures in
    let levels = combinations.levels ∙ copied.levels ∙ c.clear.ensures.levels ∙ sym mid.same_levels ∙ numerators.levels ∙ was.same_levels in
    let words = combinations.words ∙ copied.words ∙ c.clear.ensures.words ∙ sym mid.same_words ∙ numerators.words ∙ was.same_words in
    record {
      coset = subst (λ n. l.coset < n) (shifted_most (16 - self.levels) (omega arith)) c.loop-coset-test.true;
      serves = record {
        count = c.requires.serves.count;
        levels = ap (λ (g : Grid). g.levels) l.invariant.kept ∙ levels ∙ c.requires.serves.levels;
        fits = wider_fit was.rows.words l.scratch.rows.words c.args.columns.now _ c.args.buffers.now l.buffers l.invariant.added c.requires.serves.fits (let same = ap (λ (g : Grid). g.words) l.invariant.kept ∙ words in omega (arith, same));
      };
      bytes = c.sum.ensures.bytes;
      numerators = subst (HoldNumerators self.levels self.numerators.sequence.items (byte_lists c.args.sources.now) c.args.columns.now.from) (sym l.invariant.kept)
          (combinations_of self.levels self.numerators.count self.numerators.sequence.items (byte_lists c.args.sources.now) c.args.columns.now.from was.sums mid.sums c.clear.new.self c.copy_from.new.self c.to_combinations.new.rows
          self.fit self.whole (words ∙ sym was.same_words) c.clear.ensures.zero numerators
          (subst (λ m. AreCopied m mid.sums c.clear.new.self c.copy_from.new.self) many copied)
          (subst (λ m. EachColumn (IsCombination m self.levels) c.copy_from.new.self c.to_combinations.new.rows) many combinations));
    }

pub loop-coset-preserved : goal.loop-coset-preserved
loop-coset-preserved c =
    let self = c.args.self.now in
    let l = c.loop-coset in
    record {
      kept = c.add_coset.ensures.kept ∙ l.invariant.kept;
      added = next_coset c.args.columns.now.outputs.places.now c.args.columns.now.outputs.words self.numbers.items self.levels c.args.columns.now.from c.args.columns.now.to l.coset (λ t p. quotient_sum self.numerators.sequence.items self.points.items self.factors.items (words_at (byte_lists c.args.sources.now) p) t)
          (lists_of c.args.buffers.now) (lists_of l.buffers) (lists_of c.add_coset.new.buffers) l.invariant.added c.add_coset.ensures.added;
    }

pub returns-clause-added : goal.returns-clause-added
returns-clause-added c =
    let self = c.args.self.now in
    let l = c.loop-coset in
    let end : l.coset ≡ 2 ^ (16 - self.levels) = omega (arith, c.loop-coset-test.false, c.loop-coset.auto.coset-end, shifted_most (16 - self.levels) (omega arith)) in
    all_cosets c.args.columns.now.outputs.places.now c.args.columns.now.outputs.words self.numbers.items self.levels c.args.columns.now.from c.args.columns.now.to l.coset (λ t p. quotient_sum self.numerators.sequence.items self.points.items self.factors.items (words_at (byte_lists c.args.sources.now) p) t)
    (lists_of c.args.buffers.now) (lists_of l.buffers) (omega (arith, self.few, self.numerators.few)) end self.numbered.small l.invariant.added
