use Rattle.par2_files.proofs.Names.{arith, refilled}
use Rattle.par2_files.proofs.change.Changes.as_mut_slice.Goals as goal

pub returns : goal.returns
returns c = grind (arith, refilled)
