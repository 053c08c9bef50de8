use Rattle.par2_solve.proofs.Names.{Bor, List, YieldsList-from_map_by, YieldsList-from_slice, YieldsList-from_take, byte_lists, from_origin, length, lists_of, map_from_collect, rules, ℕ}
use Rattle.par2_solve.proofs.holes.Filling.run.Goals as goal

pub returns : goal.returns
returns c =
    let list = from_origin (byte_lists c.args.sources.now) (lists_of c.args.holes.now) in
    map_from_collect _ c.collect.ensures.ran
    (YieldsList-from_map_by _ (λ (t : Bor (List ℕ)). t.now) list (YieldsList-from_take (length c.args.sources.now) (YieldsList-from_slice c.args.self.now.origins.items (cc)) (cc)) c.map.ensures.closure (λ x r q k. search rules))
