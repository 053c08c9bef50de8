use Rattle.par2_transform.proofs.Names.{ℕ, List, ◌-◌, ◌^◌, ◌≤◌, ◌≡◌, ◌∙◌, sym, ap, subst, rules, arith, length, slice_index, GivesElements, half_fits, numbered_by}
use Rattle.par2_transform.proofs.locator.Locator.new.Goals as goal

pub invariant_of-result : goal.invariant_of-result
invariant_of-result c = record {
  few = omega arith;
  fit = (let numerators = c.in_ok-numerators.numerators in
      let same : numerators.count ≡ length numerators.sequence.items = whole in
      let low : c.saturating_sub-levels.result ≡ numerators.levels - 1 = search rules in
      subst (λ m. length numerators.sequence.items ≤ 2 ^ m) (sym low) (half_fits (length numerators.sequence.items) numerators.levels (omega (arith, numerators.fit, same))));
  whole = whole;
  factors_count = c.requires.factors;
  points_fit = points_fit;
  factors_fit = subst (λ (xs : List ℕ). GivesElements (slice_index xs)) c.deref-4.ensures.value c.fit_words-2.ensures;
  numbered = numbered_by c.args.points.items c.deref.result.now c.in_ok-numbers.numbers.items c.deref-2.result.now c.in_ok-next.next.items points_fit c.deref.ensures.value (search rules) c.deref-2.ensures.value c.in_ok-next.ensures.count c.in_ok-next.ensures.listed;
}
  where
    whole : c.in_ok-numerators.numerators.count ≡ length c.in_ok-numerators.numerators.sequence.items
    whole = let many : c.len-count.result ≡ length c.args.sequence.items = search rules in c.in_ok-numerators.ensures.count ∙ many ∙ sym (ap (λ (xs : List ℕ). length xs) c.in_ok-numerators.ensures.sequence)

    points_fit : GivesElements (slice_index c.args.points.items)
    points_fit = subst (λ (xs : List ℕ). GivesElements (slice_index xs)) c.deref-3.ensures.value c.fit_words.ensures
