use Rattle.par2_inputs.proofs.Common.{◌≡◌, ◌+◌, length, take, slice_count, sum_by}
use Rattle.par2_inputs.proofs.inputs.are_too_many.Given as goal

abbrev pub invariant-loop-i : goal.invariant-loop-i
invariant-loop-i l = l.left + sum_by (λ input. slice_count l.size (length input.bytes.now)) (take l.i l.inputs) ≡ 32768
