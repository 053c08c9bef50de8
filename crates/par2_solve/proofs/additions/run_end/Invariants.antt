use Rattle.par2_solve.proofs.Common.{ℕ, ◌≡◌, ◌≤◌, ◌<◌, ◌+◌, ◌-◌, length, slice_index}
use Rattle.par2_solve.proofs.additions.run_end.Given as goal

abbrev pub invariant-loop-end : goal.invariant-loop-end
invariant-loop-end l = record {
  beyond : l.at < l.end;
  within : l.end ≤ length l.exponents;
  run : (k : ℕ) → l.at + k < l.end → slice_index l.exponents (l.at + k) ≡ slice_index l.exponents l.at + k;
}

abbrev pub decreases-loop-end : goal.decreases-loop-end
decreases-loop-end l = length l.exponents - l.end
