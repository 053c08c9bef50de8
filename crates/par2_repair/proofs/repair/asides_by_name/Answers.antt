use Rattle.par2_repair.proofs.Names.{IfOk-weaker, rules, YieldsList-from_map, YieldsList-from_slice, YieldsList-from_zip, fact_from_collect, YieldsList-at, slice_cmp, nat_cmp, as_pair, holds_asides}
use Rattle.std.specs.BTreeMap.{IsFromIterResult}
use Rattle.par2_repair.proofs.repair.asides_by_name.Goals as goal

pub returns : goal.returns
returns c =
    IfOk-weaker c.collect.result _ _ (λ tree is. holds_asides c.args.names.now c.args.asides.now tree is)
    (fact_from_collect (IsFromIterResult (slice_cmp nat_cmp)) c.collect.result c.collect.ensures.ran
    (YieldsList-from_map _ as_pair
    (YieldsList-at c.map-pairs.ensures.source (YieldsList-from_zip (YieldsList-from_slice c.args.names.now cc) (YieldsList-from_slice c.args.asides.now cc)))
    c.map-pairs.ensures.closure (λ x r q k. search rules)))
