use Rattle.par2_repair.proofs.Common.{◌≡◌, ◌++◌, take, removed}
use Rattle.par2_repair.proofs.repair.push_removed.Given as goal

abbrev pub invariant-loop-name : goal.invariant-loop-name
invariant-loop-name l = l.changes ≡ l.initial.changes ++ removed l.asides l.matching (take l.name-index l.names)
