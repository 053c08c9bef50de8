use Rattle.par2_solve.proofs.Common.{◌≤◌, ◌<◌, ◌-◌, length}
use Rattle.par2_solve.proofs.additions.group_end.Given as goal

abbrev pub invariant-loop-end : goal.invariant-loop-end
invariant-loop-end l = record {
  beyond : l.at < l.end;
  within : l.end ≤ length l.exponents;
}

abbrev pub decreases-loop-end : goal.decreases-loop-end
decreases-loop-end l = length l.exponents - l.end
