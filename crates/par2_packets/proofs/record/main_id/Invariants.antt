use Rattle.par2_packets.proofs.Common.{◌++◌, length, map, take, flat_map, w32, w64, to_le_bytes, Holds, file_record_of}
use Rattle.par2_packets.proofs.record.main_id.Given as goal

abbrev pub invariant-loop-file : goal.invariant-loop-file
invariant-loop-file l =
    Holds l.hasher
    (to_le_bytes w64 l.s ++ to_le_bytes w32 (length l.files)
    ++ flat_map (λ file. file.id) (map file_record_of (take l.file-index l.files)))
