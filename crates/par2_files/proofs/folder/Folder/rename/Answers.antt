use Rattle.par2_files.proofs.Names.{arith, stays_absent}
use Rattle.par2_files.proofs.folder.Folder.rename.Goals as goal

pub unreachable-requires : goal.unreachable-requires
unreachable-requires c = grind (arith, stays_absent)
