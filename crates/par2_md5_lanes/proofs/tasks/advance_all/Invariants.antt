use Rattle.par2_md5_lanes.proofs.Common.{◌≡◌, ◌≤◌, ◌<◌, ℕ, length, get_or, hash_behind, digest_at, LaneTask, Progresses}
use Rattle.par2_md5_lanes.proofs.tasks.advance_all.Given as goal

abbrev pub invariant-loop-k : goal.invariant-loop-k
invariant-loop-k g l = record {
  blocks : length l.blocks ≡ 16;
  progress : (j : ℕ) (none : LaneTask) → j < l.k → Progresses (get_or l.initial.tasks j none) (get_or l.tasks j none) (g.H.Hashes.at j l.state) (hash_behind (g.H.Hashes.at j l.state) (digest_at l.blocks j) 1) 1;
  kept : (j : ℕ) (none : LaneTask) → l.k ≤ j → get_or l.tasks j none ≡ get_or l.initial.tasks j none;
}
