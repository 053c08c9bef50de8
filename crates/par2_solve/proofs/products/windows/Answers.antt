use Rattle.par2_solve.proofs.Names.{Bor, List, YieldsList-from_map_by, YieldsList-from_slice, chunk, map-map, map_from_collect, rules, ℕ}
use Rattle.par2_solve.proofs.products.windows.Goals as goal

pub returns : goal.returns
returns c =
    let part = chunk c.args.from c.args.count in
    rw (map-map part (λ (t : Bor (List ℕ)). t.now) c.args.buffers.now)
    (map_from_collect _ c.collect.ensures.ran (YieldsList-from_map_by _ (λ (t : Bor (List ℕ)). t.now) (λ (t : Bor (List ℕ)). part t.now) (YieldsList-from_slice c.args.buffers.now (cc)) c.map-windows.ensures.closure (λ x r q k. search rules)))
