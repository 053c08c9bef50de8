use Rattle.par2_sets.proofs.AnswerNames.{◌∙◌, List, ap, map, rules, IfOk-weaker, list_any, is_among, nat_cmp, Target, target_names, HoldsOwned, slice_cmp, YieldsList-from_map, YieldsList-from_slice, is_eq-slice_cmp, fact_from_collect, IsFromIterResult}
use Rattle.par2_sets.proofs.set.target_names.Goals as goal

pub returns : goal.returns
returns c =
    let ts : List Target = c.targets.result.now in
    let order = slice_cmp nat_cmp in
    IfOk-weaker c.collect.result (IsFromIterResult order (map (λ t. t.name) ts)) (λ names. HoldsOwned names (target_names c.args.set.now)) (λ names made name.
    made.0 name ∙ (λ i. list_any (λ other. is_eq-slice_cmp name other i) (map (λ t. t.name) ts))
    ∙ ap (λ (xs : List Target). is_among (map (λ t. t.name) xs) name) c.targets.ensures.value)
    (fact_from_collect (IsFromIterResult order) c.collect.result c.collect.ensures.ran
    (YieldsList-from_map _ (λ (t : Target). t.name) (YieldsList-from_slice ts cc) c.map-names.ensures.closure (λ x r q k. search rules)))
