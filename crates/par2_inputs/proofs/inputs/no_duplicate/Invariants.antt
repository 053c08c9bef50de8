use Rattle.par2_inputs.proofs.Names.{◌≡◌, ◌<◌, ℕ, false, take, HoldsNames, comes_again}
use Rattle.par2_inputs.proofs.inputs.no_duplicate.Given as goal

abbrev pub invariant-loop-i : goal.invariant-loop-i
invariant-loop-i l = ((k : ℕ) → k < l.i → comes_again l.names k ≡ false) × HoldsNames l.seen (take l.i l.names)
