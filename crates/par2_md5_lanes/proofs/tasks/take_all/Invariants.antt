use Rattle.par2_md5_lanes.proofs.Common.{◌≡◌, ◌≤◌, ◌<◌, ◌*◌, ℕ, List, length, get_or, hash_behind, buffer_at, LaneTask, Progresses}
use Rattle.par2_md5_lanes.proofs.tasks.take_all.Given as goal

abbrev pub invariant-loop-k : goal.invariant-loop-k
invariant-loop-k l = record {
  buffers : length l.buffers ≡ 16;
  room : (j : ℕ) → j < 16 → l.batch * 64 ≤ length (buffer_at l.buffers j);
  progress : (hash : ℕ → List ℕ) (j : ℕ) (none : LaneTask) → j < l.k → Progresses (get_or l.initial.tasks j none) (get_or l.tasks j none) (hash j) (hash_behind (hash j) (buffer_at l.buffers j) l.batch) 1;
  kept : (j : ℕ) (none : LaneTask) → l.k ≤ j → get_or l.tasks j none ≡ get_or l.initial.tasks j none;
}
