use Rattle.par2_inputs.proofs.Common.{◌≡◌, ◌+◌, ◌++◌, ◌/◌, ◌%◌, map, take, string_bytes}
use Rattle.par2_inputs.proofs.inputs.push_five_digits.Given as goal

abbrev pub invariant-loop-power : goal.invariant-loop-power
invariant-loop-power l = string_bytes l.string ≡ string_bytes l.initial.string ++ map (λ power. 48 + l.n / power % 10) (take l.power-index l.power-items)
