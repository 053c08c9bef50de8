use Rattle.par2_md5_lanes.proofs.Common.{◌≡◌, ◌<◌, ℕ, length, get_or, AllProgress, LaneTask, work}
use Rattle.par2_md5_lanes.proofs.tasks.finish_all.Given as goal

abbrev pub invariant-loop-k : goal.invariant-loop-k
invariant-loop-k g l = record {
  tasks : length l.tasks ≡ length l.initial.tasks;
  progress : AllProgress l.initial.tasks l.tasks (λ k. g.H.Hashes.at k l.initial.state) (λ k. g.H.Hashes.at k l.state) 0;
  done : (j : ℕ) (none : LaneTask) → j < l.k → work (get_or l.tasks j none) ≡ 0;
}
