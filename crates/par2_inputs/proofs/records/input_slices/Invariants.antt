use Rattle.par2_inputs.proofs.Names.{◌≡◌, map, take, padded, all_slices, files_of, buffers_of, names_of}
use Rattle.par2_inputs.proofs.records.input_slices.Given as goal

abbrev pub invariant-loop-i : goal.invariant-loop-i
invariant-loop-i l = map (padded l.s) (buffers_of l.all.items) ≡ all_slices l.s (files_of l.folder.files (take l.i (names_of l.files)))
