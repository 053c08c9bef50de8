use Rattle.par2_md5_lanes.proofs.Common.{◌<◌, ◌*◌, ◌^◌, ℕ, get_or, HasBlocks, LaneTask}
use Rattle.par2_md5_lanes.proofs.tasks.batch_of.Given as goal

abbrev pub invariant-loop-task : goal.invariant-loop-task
invariant-loop-task l = record {
  room : l.count * 64 < 2 ^ 64;
  blocks : (k : ℕ) (none : LaneTask) → k < l.task-index → HasBlocks (get_or l.tasks k none) l.count;
}
