use Rattle.par2_inputs.proofs.Common.{◌≡◌, ◌++◌, take, flat_map, packet, packet_of, desc_bytes, ifsc_bytes, FileDesc, Ifsc, file_record_of}
use Rattle.par2_inputs.proofs.records.index_of.Given as goal

abbrev pub invariant-loop-file : goal.invariant-loop-file
invariant-loop-file l = l.index.items ≡ l.initial.index.items ++ flat_map (λ file. packet (packet_of l.set_id FileDesc (desc_bytes (file_record_of file)))) (take l.file-index l.files)

abbrev pub invariant-loop-entry : goal.invariant-loop-entry
invariant-loop-entry l = l.index.items ≡ l.initial.index.items ++ flat_map (λ file. packet (packet_of l.set_id Ifsc (ifsc_bytes (file_record_of file)))) (take l.entry-index l.files)
