use Rattle.par2_repair.proofs.Names.{ℕ, List, rules, tests, Option, filter_map, IfOk-weaker, Target, YieldsList-from_slice, fact_from_collect, YieldsList-from_filter_map, IsFromIterResult, slice_cmp, nat_cmp, holds}
use Rattle.par2_repair.proofs.repair.matching.Goals as goal

pub returns : goal.returns
returns c =
    IfOk-weaker c.collect.result _ _ (holds (filter_map (λ (m : Target × Option (List ℕ)). m.1) c.args.targets.now))
    (fact_from_collect (IsFromIterResult (slice_cmp nat_cmp)) c.collect.result c.collect.ensures.ran
    (YieldsList-from_filter_map _ (λ (m : Target × Option (List ℕ)). m.1) (YieldsList-from_slice c.args.targets.now cc) c.filter_map-names.ensures.closure (λ x r q k. search (rules, tests))))
