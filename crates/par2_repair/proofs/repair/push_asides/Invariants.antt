use Rattle.par2_repair.proofs.Common.{◌≡◌, ◌++◌, take, renamed}
use Rattle.par2_repair.proofs.repair.push_asides.Given as goal

abbrev pub invariant-loop-name : goal.invariant-loop-name
invariant-loop-name l = l.changes ≡ l.initial.changes ++ renamed l.asides (take l.name-index l.names)
