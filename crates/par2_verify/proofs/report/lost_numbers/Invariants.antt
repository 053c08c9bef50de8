use Rattle.par2_verify.proofs.Common.{◌≡◌, ◌++◌, drop, contains, numbers_of_lost, count_cmp}
use Rattle.par2_verify.proofs.report.lost_numbers.Given as goal

abbrev pub invariant-loop-i : goal.invariant-loop-i
invariant-loop-i l = let is_lost = contains count_cmp l.lost in l.numbers.items ++ numbers_of_lost l.i is_lost (drop l.i l.pairs) ≡ numbers_of_lost 0 is_lost l.pairs
