use Rattle.par2_files.proofs.Names.{arith, name_parts}
use Rattle.par2_files.proofs.name.is_name.Goals as goal

pub returns-clause-name : goal.returns-clause-name
returns-clause-name c = grind (arith, name_parts)

pub returns-then-not-has_length-clause-name : goal.returns-then-not-has_length-clause-name
returns-then-not-has_length-clause-name c = grind (arith, name_parts)

pub returns-then-eq-clause-name : goal.returns-then-eq-clause-name
returns-then-eq-clause-name c = grind (arith, name_parts)
