use Rattle.par2_files.proofs.Common.{◌≡◌, map, take, message_of, fingerprint_input, file_of}
use Rattle.par2_files.proofs.snapshot.Snapshot.pending_between.Given as goal

abbrev pub invariant-loop-file : goal.invariant-loop-file
invariant-loop-file l = message_of l.parts.items ≡ fingerprint_input (map file_of (take l.file-index l.files))
