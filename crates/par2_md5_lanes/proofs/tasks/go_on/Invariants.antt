use Rattle.par2_md5_lanes.proofs.Common.{◌≡◌, length, get_or, AllProgress, map, work}
use Rattle.par2_md5_lanes.proofs.tasks.go_on.Given as goal

abbrev pub invariant-loop-tasks : goal.invariant-loop-tasks
invariant-loop-tasks g l = record {
  tasks : length l.tasks ≡ length l.initial.tasks;
  progress : AllProgress l.initial.tasks l.tasks (λ k. g.H.Hashes.at k l.initial.state) (λ k. g.H.Hashes.at k l.state) 0;
}

abbrev pub decreases-loop-tasks : goal.decreases-loop-tasks
decreases-loop-tasks g l = get_or (map work l.tasks) l.k 0
