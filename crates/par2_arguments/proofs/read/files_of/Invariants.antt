use Rattle.par2_arguments.proofs.Common.{◌≡◌, map, take, string_bytes}
use Rattle.par2_arguments.proofs.read.files_of.Given as goal

abbrev pub invariant-loop-bytes : goal.invariant-loop-bytes
invariant-loop-bytes l = map string_bytes l.files.items ≡ map (λ v. v.now) (take l.bytes-index l.bytes-items)
