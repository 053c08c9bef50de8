use Rattle.par2_sets.proofs.AnswerNames.{◌∙◌, ℕ, List, ap, rules, not, filter, map-id, IfOk-weaker, is_among, target_names, YieldsList-at, YieldsList-from_map, YieldsList-from_slice, items_from_collect, YieldsList-from_filter, par_files_are}
use Rattle.par2_sets.proofs.set.par_files.Goals as goal

pub returns : goal.returns
returns c = λ files own.
    let free = λ (n : List ℕ). not (is_among (target_names c.args.set.now) n) in
    IfOk-weaker c.collect.result _ _ (λ list e. e ∙ map-id (filter free c.args.own.now) ∙ ap (filter free) own ∙ par_files_are files c.args.set.now)
    (items_from_collect _ c.collect.ensures.ran (YieldsList-from_map _ (λ (n : List ℕ). n) (YieldsList-at c.map.ensures.source
    (YieldsList-from_filter _ free (YieldsList-from_slice c.args.own.now cc) c.filter-removed.ensures.closure (λ x b q k. search rules)))
    c.map.ensures.closure (λ x r q k. search rules)))
