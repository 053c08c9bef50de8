use Rattle.par2_solve.proofs.Names.{Bor, List, YieldsList-from_map_by, YieldsList-from_rev_slice, [], byte_lists, from_origin, map_from_collect, rules, ℕ}
use Rattle.par2_solve.proofs.holes.Filling.window.Goals as goal

pub returns : goal.returns
returns c =
    let origins = c.args.self.now.origins.items in
    let list = from_origin (byte_lists c.args.sources.now) [] in
    map_from_collect _ c.collect.ensures.ran (YieldsList-from_map_by _ (λ (t : Bor (List ℕ)). t.now) list (YieldsList-from_rev_slice origins (cc)) c.map-window.ensures.closure (λ x r q k. search rules))
