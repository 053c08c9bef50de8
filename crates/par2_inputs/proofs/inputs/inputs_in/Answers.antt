use Rattle.par2_inputs.proofs.Names.{rules, List, ℕ, bytes_of, input_file, YieldsList-from_slice, YieldsList-from_map_by, map_from_collect}
use Rattle.par2_inputs.proofs.inputs.inputs_in.Goals as goal

pub returns : goal.returns
returns c =
    map_from_collect _ c.collect.ensures.ran
    (YieldsList-from_map_by _ input_file (λ (name : List ℕ). (name, bytes_of c.args.folder.now.files name)) (YieldsList-from_slice c.args.names.now (cc)) c.map-inputs.ensures.closure (λ x r q k. search rules))
