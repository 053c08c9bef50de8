use Rattle.par2_solve.proofs.Names.{AddsToEach, AreSums, Bor, Global, List, Vec, [], ap, byte_lists, from_origin, length, length-byte_lists, length-map, length-reverse, lists_of, numerator, reverse, right_side, rules, subst, sums_of_blank, sym, with_items_is, words_at, ℕ, ◌∙◌, ◌≡◌}
use Rattle.par2_solve.proofs.holes.Filling.right_sides.Goals as goal

pub add_sums-requires-clause-sources : goal.add_sums-requires-clause-sources
add_sums-requires-clause-sources c =
    ap (λ (xs : List (Bor (List ℕ))). length xs) c.deref.ensures.value ∙ sym (length-byte_lists c.in_ok-window.window.items) ∙ ap (λ (xs : List (List ℕ)). length xs) c.in_ok-window.ensures
    ∙ length-map (reverse c.args.self.now.origins.items) (from_origin (byte_lists c.args.sources.now) []) ∙ length-reverse c.args.self.now.origins.items ∙ c.requires

pub returns : goal.returns
returns c =
    let filling = c.args.self.now in
    let sums = c.in_ok-sums.sums in
    let new = c.add_sums.new.buffers in
    let side = λ (r w : ℕ). right_side filling (byte_lists c.args.sources.now) w r in
    let same : length new ≡ sums.len = search rules in
    let window_is = ap byte_lists c.deref.ensures.value ∙ c.in_ok-window.ensures in
    let added : AddsToEach side (lists_of sums.items) (lists_of new) =
    subst (λ (xs : List (Vec ℕ Global)). AddsToEach side (lists_of xs) (lists_of new)) c.as_mut_slice.ensures.value
    (subst (λ window. AddsToEach (λ r w. numerator filling.equations.sequence.items (words_at window w) r) (lists_of c.as_mut_slice.result.now) (lists_of new)) window_is c.in_ok-add_sums.ensures) in
    subst (λ (xs : List (Vec ℕ Global)). AreSums c.args.size.bytes filling.equations.count (λ w r. side r w) (lists_of xs)) (sym (with_items_is sums new same))
    (sums_of_blank c.args.size.bytes filling.equations.count side (lists_of sums.items) (lists_of new) c.in_ok-sums.ensures added)
