use Rattle.par2_md5_lanes.proofs.Common.{◌≡◌, length, TakeAll, buffer_at}
use Rattle.par2_md5_lanes.proofs.tasks.pendings_of.Given as goal

abbrev pub invariant-loop-bytes : goal.invariant-loop-bytes
invariant-loop-bytes l = record {
  count : length l.pendings.items ≡ l.bytes-index;
  each : TakeAll l.pendings.items (buffer_at l.buffers);
}
