use Rattle.par2_files.proofs.Common.{◌≡◌, ℕ, List, map, take, md5, HaveAbsorbed}
use Rattle.par2_files.proofs.walk.digests_of.Given as goal

abbrev pub invariant-loop-state : goal.invariant-loop-state
invariant-loop-state l = (buffers : List (List ℕ)) → HaveAbsorbed l.states buffers → l.digests.items ≡ map md5 (take l.state-index buffers)
