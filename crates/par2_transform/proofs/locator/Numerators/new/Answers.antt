use Rattle.par2_transform.proofs.Names.{rules, arith, ◌+◌, levels_fit, ℕ, List, ap, slice_index, ◌≡◌, ◌<◌, ◌∙◌, sym, subst, length, with_items_is, GivesElements, IsWeighed, shifted_most, weighed_by}
use Rattle.par2_transform.proofs.locator.Numerators.new.Goals as goal

pub invariant_of-result-clause-weighed : goal.invariant_of-result-clause-weighed
invariant_of-result-clause-weighed c =
    let words = c.weights.new.words in
    let k = c.ilog2-levels.result in
    let size : length words ≡ c.in_ok-points.points.len = search rules in
    let length_is : c.len.result ≡ length c.args.sequence.items = search rules in
    let levels = levels_fit (c.len.result + c.args.count) c.next_power_of_two.result k (omega (arith, length_is, c.requires)) c.next_power_of_two.ensures.power c.next_power_of_two.ensures.lower_bound c.next_power_of_two.ensures.upper_bound c.ilog2-levels.ensures.power_le c.ilog2-levels.ensures.next_power_gt in
    let points = shifted_most k levels.0 in
    subst (IsWeighed k c.args.sequence.items) (sym (with_items_is c.in_ok-points.points words size))
    (weighed_by k c.args.sequence.items c.in_ok-points.points.items c.as_mut_slice.result.now words c.as_mut_slice.ensures.value (c.in_ok-points.ensures.count ∙ points)
    (λ i low. c.in_ok-points.ensures.each i (subst (λ n. i < n) (sym points) low) ∙ ap (λ (xs : List ℕ). slice_index xs i) c.deref.ensures.value)
    c.weights.ensures.count c.weights.ensures.elements c.weights.ensures.are)

pub invariant_of-result-clause-elements : goal.invariant_of-result-clause-elements
invariant_of-result-clause-elements c = subst (λ (xs : List ℕ). GivesElements (slice_index xs)) c.deref-2.ensures.value c.fit_words.ensures

pub weights-requires-clause-few : goal.weights-requires-clause-few
weights-requires-clause-few c =
    let length_is : c.len.result ≡ length c.args.sequence.items = search rules in
    (levels_fit (c.len.result + c.args.count) c.next_power_of_two.result c.ilog2-levels.result (omega (arith, length_is, c.requires)) c.next_power_of_two.ensures.power c.next_power_of_two.ensures.lower_bound c.next_power_of_two.ensures.upper_bound c.ilog2-levels.ensures.power_le c.ilog2-levels.ensures.next_power_gt).0

pub invariant_of-result-clause-few : goal.invariant_of-result-clause-few
invariant_of-result-clause-few c =
    let length_is : c.len.result ≡ length c.args.sequence.items = search rules in
    (levels_fit (c.len.result + c.args.count) c.next_power_of_two.result c.ilog2-levels.result (omega (arith, length_is, c.requires)) c.next_power_of_two.ensures.power c.next_power_of_two.ensures.lower_bound c.next_power_of_two.ensures.upper_bound c.ilog2-levels.ensures.power_le c.ilog2-levels.ensures.next_power_gt).0

pub invariant_of-result-clause-fit : goal.invariant_of-result-clause-fit
invariant_of-result-clause-fit c =
    let length_is : c.len.result ≡ length c.args.sequence.items = search rules in
    let levels = levels_fit (c.len.result + c.args.count) c.next_power_of_two.result c.ilog2-levels.result (omega (arith, length_is, c.requires)) c.next_power_of_two.ensures.power c.next_power_of_two.ensures.lower_bound c.next_power_of_two.ensures.upper_bound c.ilog2-levels.ensures.power_le c.ilog2-levels.ensures.next_power_gt in
    omega (arith, length_is, levels)
