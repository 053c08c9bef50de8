use Rattle.par2_verify.proofs.Names.{List, ℕ, rules, tests, Option, is_none, IfOk-weaker, Target, names_without_match, YieldsList-at, YieldsList-from_filter, YieldsList-from_map, YieldsList-from_slice, fact_from_collect, IsFromIterResult, slice_cmp, nat_cmp, holds}
use Rattle.par2_verify.proofs.matching.unmatched.Goals as goal

pub returns : goal.returns
returns c =
    let ms : List (Target × Option (List ℕ)) = c.args.incomplete.now in
    IfOk-weaker c.collect.result _ _ (holds (names_without_match ms))
    (fact_from_collect (IsFromIterResult (slice_cmp nat_cmp)) c.collect.result c.collect.ensures.ran
    (YieldsList-from_map _ (λ (m : Target × Option (List ℕ)). m.0.name)
    (YieldsList-at c.map-names.ensures.source (YieldsList-from_filter _ (λ (m : Target × Option (List ℕ)). is_none m.1) (YieldsList-from_slice ms cc) c.filter-unmatched.ensures.closure (λ x b q k. search (rules, tests))))
    c.map-names.ensures.closure (λ x r q k. search rules)))
