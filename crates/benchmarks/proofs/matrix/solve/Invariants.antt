use Rattle.std.proofs.Common.{◌≡◌}
use Rattle.benchmarks.proofs.matrix.solve.Given as goal

abbrev pub invariant-loop-exponent : goal.invariant-loop-exponent
invariant-loop-exponent l = (l.system.columns ≡ l.columns) × (l.system.bytes ≡ 4096)
