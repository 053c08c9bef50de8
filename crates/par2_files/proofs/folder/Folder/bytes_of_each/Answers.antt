use Rattle.par2_files.proofs.Names.{rules, ℕ, List, Bor, bytes_of, YieldsList-from_map_by, YieldsList-from_slice, map_from_collect}
use Rattle.par2_files.proofs.folder.Folder.bytes_of_each.Goals as goal

pub returns : goal.returns
returns c =
    map_from_collect _ c.collect.ensures.ran
    (YieldsList-from_map_by _ (λ (t : Bor (List ℕ)). t.now) (bytes_of _) (YieldsList-from_slice c.args.names.now (cc)) c.map-all.ensures.closure (λ x r q k. search rules))
