use Rattle.par2_matrix.proofs.Common.{rules}
use Rattle.par2_matrix.proofs.RunInverses.{slices_from}
use Rattle.par2_matrix.proofs.exponents.are_slices.Goals as goal

pub returns-then-all : goal.returns-then-all
returns-then-all c = search (rules, slices_from)
