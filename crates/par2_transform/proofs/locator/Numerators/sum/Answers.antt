use Rattle.par2_transform.proofs.Names.{ℕ, List, ◌+◌, ◌^◌, ◌≡◌, ◌∙◌, sym, subst, length, slice_index, byte_lists, AreValues, EachColumn, RowsGathered, HaveFirst, words_at, Bor, length-map, numerators_are}
use Rattle.par2_transform.proofs.locator.Numerators.sum.Goals as goal

pub returns-clause-numerators : goal.returns-clause-numerators
returns-clause-numerators c =
    let self = c.args.self.now in
    let many : length (byte_lists c.args.sources.now) ≡ length c.args.sources.now = length-map c.args.sources.now (λ (x : Bor (List ℕ)). x.now) in
    numerators_are self.count self.sequence.items self.weights.items (byte_lists c.args.sources.now) self.levels c.args.from c.args.scratch.now.rows c.fill.new.rows c.values_at_points.new.rows c.args.scratch.now.sums c.clear.new.self c.gather_rows.new.sums c.power_sums.new.rows
    (many ∙ c.requires.count) self.fit c.fill.ensures.bytes self.weighed c.requires.levels (c.args.scratch.now.same_levels ∙ c.requires.levels) (sym c.args.scratch.now.same_words)
    (subst (λ n. HaveFirst n (λ k s. words_at (byte_lists c.args.sources.now) (c.args.from + k) s) c.args.scratch.now.rows c.fill.new.rows) (sym many) c.fill.ensures.rows)
    (subst (λ n. EachColumn (AreValues n c.fill.new.rows.levels) c.fill.new.rows c.values_at_points.new.rows) (sym many) c.values_at_points.ensures) c.clear.ensures.levels c.clear.ensures.words c.clear.ensures.zero
    (subst (λ (xs : List ℕ). RowsGathered (slice_index xs) c.values_at_points.new.rows (2 ^ c.clear.new.self.levels) c.clear.new.self c.gather_rows.new.sums) c.deref.ensures.value c.gather_rows.ensures)
    c.power_sums.ensures
