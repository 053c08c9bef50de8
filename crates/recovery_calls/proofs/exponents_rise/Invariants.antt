use Rattle.recovery_calls.proofs.Common.{◌<◌, AllAdjacentBelow}
use Rattle.recovery_calls.proofs.exponents_rise.Given as goal

abbrev pub invariant-loop-i : goal.invariant-loop-i
invariant-loop-i l = AllAdjacentBelow (λ a b. a.0 < b.0) l.recovery l.i
