use Rattle.par2_md5_lanes.proofs.Common.{◌≡◌, ◌<◌, ◌++◌, ℕ, List, length, get_or, HasAbsorbed, message_of, Midstate, Pending}
use Rattle.par2_md5_lanes.proofs.tasks.states_behind.Given as goal

abbrev pub invariant-loop-k : goal.invariant-loop-k
invariant-loop-k g l = record {
  count : length l.states ≡ 16;
  done : (j : ℕ) (m : List ℕ) (none : Pending) (no_state : Midstate) → j < l.k → HasAbsorbed (get_or l.pendings j none).state m
      → HasAbsorbed (get_or l.states j no_state) (m ++ message_of (get_or l.pendings j none).parts.items);
}
