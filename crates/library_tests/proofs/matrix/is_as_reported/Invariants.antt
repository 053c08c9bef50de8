use Rattle.library_tests.proofs.Common.{◌≡◌}
use Rattle.library_tests.proofs.matrix.is_as_reported.Given as goal

abbrev pub invariant-loop-k : goal.invariant-loop-k
invariant-loop-k g l = (l.system.columns ≡ l.columns) × (l.system.bytes ≡ l.bytes)
