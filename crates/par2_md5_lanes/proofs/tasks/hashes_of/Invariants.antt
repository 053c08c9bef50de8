use Rattle.par2_md5_lanes.proofs.Common.{◌≡◌, ◌<◌, ℕ, [], get_or, length, Pending}
use Rattle.par2_md5_lanes.proofs.tasks.hashes_of.Given as goal

abbrev pub invariant-loop-k : goal.invariant-loop-k
invariant-loop-k g l = record {
  count : length l.hashes ≡ 16;
  done : (j : ℕ) (none : Pending) → j < l.k → get_or l.hashes j [] ≡ (get_or l.pendings j none).state.hash;
}
