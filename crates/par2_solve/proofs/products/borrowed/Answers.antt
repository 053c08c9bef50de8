use Rattle.par2_solve.proofs.Names.{Bor, Global, List, Vec, YieldsList-from_map_by, YieldsList-from_slice, map_from_collect, rules, ℕ}
use Rattle.par2_solve.proofs.products.borrowed.Goals as goal

pub returns : goal.returns
returns c =
    map_from_collect _ c.collect.ensures.ran
    (YieldsList-from_map_by _ (λ (t : Bor (List ℕ)). t.now) (λ (x : Vec ℕ Global). x.items) (YieldsList-from_slice c.args.buffers.now (cc)) c.map.ensures.closure (λ x r q k. search rules))
