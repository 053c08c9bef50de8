use Rattle.par2_md5_lanes.proofs.Common.{◌≡◌, ◌*◌, length, map, min, take, md5, buffers_of}
use Rattle.par2_md5_lanes.proofs.tasks.buffer_digests.Given as goal

abbrev pub invariant-loop-group : goal.invariant-loop-group
invariant-loop-group l = l.digests.items ≡ map md5 (buffers_of (take (min (l.group * 16) (length l.buffers)) l.buffers))
