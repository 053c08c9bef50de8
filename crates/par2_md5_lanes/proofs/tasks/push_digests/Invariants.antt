use Rattle.par2_md5_lanes.proofs.Common.{◌≡◌, ◌++◌, map, take, md5, buffers_of}
use Rattle.par2_md5_lanes.proofs.tasks.push_digests.Given as goal

abbrev pub invariant-loop-k : goal.invariant-loop-k
invariant-loop-k l = l.all.items ≡ l.initial.all.items ++ map md5 (take l.k (buffers_of l.buffers))
