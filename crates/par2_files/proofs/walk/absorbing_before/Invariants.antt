use Rattle.par2_files.proofs.Names.{drop, IsWithin}
use Rattle.par2_files.proofs.walk.absorbing_before.Given as goal

abbrev pub invariant-loop-change : goal.invariant-loop-change
invariant-loop-change l = IsWithin l.from l.to l.states l.folder.files l.changes l.snapshot l.absorbing l.place (drop l.change-index l.changes)
