use Rattle.par2_packets.proofs.Common.{◌≡◌, ◌++◌, map, take, flat_map, file_record_of}
use Rattle.par2_packets.proofs.append.append_main.Given as goal

abbrev pub invariant-loop-file : goal.invariant-loop-file
invariant-loop-file l =
    l.body.items ≡ l.initial.body.items ++ flat_map (λ file. file.id) (map file_record_of (take l.file-index l.files))
