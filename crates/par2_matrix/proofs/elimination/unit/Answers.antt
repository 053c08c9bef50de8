use Rattle.par2_matrix.proofs.Common.{arith}
use Rattle.std.proofs.lemmas.Grind.{common_steps}
use Rattle.par2_matrix.proofs.elimination.unit.Goals as goal

pub returns-clause-size : goal.returns-clause-size
returns-clause-size c = grind (arith, common_steps)

pub returns-clause-unit : goal.returns-clause-unit
returns-clause-unit c = grind (arith, common_steps)
