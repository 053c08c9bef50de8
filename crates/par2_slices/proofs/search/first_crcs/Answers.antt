use Rattle.par2_slices.proofs.Names.{arith, whole_window}
use Rattle.par2_slices.proofs.search.first_crcs.Goals as goal

pub returns : goal.returns
returns g c = grind (arith, whole_window)
