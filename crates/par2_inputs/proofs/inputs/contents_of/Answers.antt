use Rattle.par2_inputs.proofs.Names.{rules, ℕ, List, Bor, Input, YieldsList-from_slice, YieldsList-from_map_by, map_from_collect}
use Rattle.par2_inputs.proofs.inputs.contents_of.Goals as goal

pub returns : goal.returns
returns c =
    map_from_collect _ c.collect.ensures.ran
    (YieldsList-from_map_by _ (λ (bytes : Bor (List ℕ)). bytes.now) (λ (input : Input). input.bytes.now) (YieldsList-from_slice c.args.inputs.now (cc)) c.map.ensures.closure (λ x r q k. search rules))
