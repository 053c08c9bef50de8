use Rattle.par2_repair.proofs.Common.{◌≡◌, ◌++◌, take, matches_taken}
use Rattle.par2_repair.proofs.repair.push_matches.Given as goal

abbrev pub invariant-loop-incomplete : goal.invariant-loop-incomplete
invariant-loop-incomplete l = l.changes ≡ l.initial.changes ++ matches_taken l.asides (take l.incomplete-index l.targets)
