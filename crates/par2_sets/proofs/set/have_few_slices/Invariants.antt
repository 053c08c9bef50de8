use Rattle.par2_sets.proofs.AnswerNames.{◌≡◌, ◌+◌, take, sum_by, slice_count}
use Rattle.par2_sets.proofs.set.have_few_slices.Given as goal

abbrev pub invariant-loop-description : goal.invariant-loop-description
invariant-loop-description l = l.left + sum_by (λ d. slice_count l.s d.length) (take l.description-index l.descriptions) ≡ 32768
