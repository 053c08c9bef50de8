use Rattle.par2_output.proofs.Common.{arith, ltb-true}
use Rattle.par2_output.proofs.WordLaws.{listed_word, no_word}
use Rattle.par2_output.proofs.failure.listed.Goals as goal

pub returns-in-Some : goal.returns-in-Some
returns-in-Some c = grind (arith, ltb-true, listed_word, no_word, c.get.ensures.lookup)

pub returns-in-None : goal.returns-in-None
returns-in-None c = grind (arith, ltb-true, listed_word, no_word, c.get.ensures.lookup)
