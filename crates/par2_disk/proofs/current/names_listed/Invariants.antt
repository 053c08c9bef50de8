use Rattle.par2_disk.proofs.Names.{[], FoldsTo, Adds}
use Rattle.par2_disk.proofs.current.names_listed.Given as goal

abbrev pub invariant-loop-item : goal.invariant-loop-item
invariant-loop-item g l = FoldsTo (Adds g.E.Entry) [] l.yielded l.names.items
