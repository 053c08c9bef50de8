use Rattle.par2_files.proofs.Common.{◌≡◌, map, take, change_of}
use Rattle.par2_files.proofs.change.copies_of.Given as goal

abbrev pub invariant-loop-change : goal.invariant-loop-change
invariant-loop-change l = map change_of l.copies.items ≡ map change_of (take l.change-index l.changes)
