use Rattle.par2_sets.proofs.AnswerNames.{arith, common_steps}
use Rattle.par2_sets.proofs.set.have_few_slices.Goals as goal

pub loop-description-preserved : goal.loop-description-preserved
loop-description-preserved c = grind (arith, common_steps)

pub returns-then-count-left : goal.returns-then-count-left
returns-then-count-left c = grind (arith, common_steps)

pub returns : goal.returns
returns c = grind (arith, common_steps)
