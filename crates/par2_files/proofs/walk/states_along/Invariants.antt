use Rattle.par2_files.proofs.Common.{map, change_of, group_buffers, HaveAbsorbed}
use Rattle.par2_files.proofs.walk.states_along.Given as goal

abbrev pub invariant-loop-name : goal.invariant-loop-name
invariant-loop-name l = HaveAbsorbed l.states.items (group_buffers l.split l.folder.files (map change_of l.changes))
