use Rattle.par2_sets.proofs.AnswerNames.{◌≡◌, ◌∙◌, ◌==◌, ◌&&◌, Bool, length, map, sym, ap, ap₂, subst, rules, List, ℕ, on_total, nat_list_cmp_total, texts_ties, distinct, distinct_count, bytes_eq, is_name, DescBody, YieldsList-from_slice, YieldsList-from_map_by, items_from_drains, length-map, tests, all_from_yields_List, btree_set_len-from_list, distinct_count-map, counted, arith, common_steps}
use Rattle.par2_sets.proofs.set.are_in_profile.Goals as goal

pub returns : goal.returns
returns c =
    let ds : List DescBody = c.args.descriptions.now in
    let names : List (List ℕ) = map (λ d. d.name) ds in
    let ran = c.in_ok-distinct.ensures.ran in
    let items = items_from_drains ran.0 ran.1 (YieldsList-from_map_by _ (λ name. name.now) (λ (d : DescBody). d.name) (YieldsList-from_slice ds cc) c.map-names.ensures.closure (λ x r q k. search rules)) in
    let size = btree_set_len-from_list (on_total (λ name. name.now) nat_list_cmp_total) ran.0 c.in_ok-distinct.distinct ran.2 in
    ap (λ n. n == length ds) (
    c.len.ensures.len ∙ size
    ∙ distinct_count-map _ (λ name. name.now) (λ a b. sym (texts_ties a.now b.now)) ran.0
    ∙ ap (distinct_count bytes_eq) items)
    ∙ subst (λ n. (distinct_count bytes_eq names == n) ≡ (length (distinct names) == n)) (length-map ds _) (counted names)
    ∙ sym (ap₂ (λ (few named : Bool). few && named && length (distinct names) == length ds) (sym c.have_few_slices.ensures ∙ c.if-not-have_few_slices.false) (sym (all_from_yields_List (λ (d : DescBody). is_name d.name) _ _ c.all-have_names.result c.all-have_names.ensures.ran (YieldsList-from_slice ds c.iter-all.ensures.rest) (λ x b q k. search (rules, tests))) ∙ c.if-not-have_names.false))

pub returns-then-not-have_few_slices : goal.returns-then-not-have_few_slices
returns-then-not-have_few_slices c = grind (arith, common_steps)
