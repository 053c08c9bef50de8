use Rattle.par2_repair.proofs.Common.{◌≡◌, map, take, Remove}
use Rattle.par2_repair.proofs.repair.purge_of.Given as goal

abbrev pub invariant-loop-name : goal.invariant-loop-name
invariant-loop-name l = l.changes ≡ map Remove (take l.name-index l.name-items)
