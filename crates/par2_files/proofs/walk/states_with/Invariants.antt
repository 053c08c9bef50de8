use Rattle.par2_files.proofs.Common.{◌++◌, ℕ, List, take, buffers_of, AreTo}
use Rattle.par2_files.proofs.walk.states_with.Given as goal

abbrev pub invariant-loop-bytes : goal.invariant-loop-bytes
invariant-loop-bytes l = (before : List (List ℕ)) → AreTo l.fn.absorbing before → AreTo l.absorbing (before ++ buffers_of (take l.bytes-index l.buffers))
