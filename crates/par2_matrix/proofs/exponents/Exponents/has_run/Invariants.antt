use Rattle.par2_matrix.proofs.Common.{ℕ, ◌-◌, ◌<◌, ◌≤◌, drop, take, AreClose}
use Rattle.par2_matrix.proofs.exponents.Exponents.has_run.Given as goal

abbrev pub invariant-loop-end : goal.invariant-loop-end
invariant-loop-end l = (j : ℕ) → l.count ≤ j → j < l.end → AreClose l.count (take l.count (drop (j - l.count) l.self.numbers.now)) → ⊥
