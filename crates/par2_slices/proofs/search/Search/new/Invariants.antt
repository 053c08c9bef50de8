use Rattle.par2_slices.proofs.Searching.{IsFilled}
use Rattle.par2_slices.proofs.search.Search.new.Given as goal

abbrev pub invariant-loop-pair : goal.invariant-loop-pair
invariant-loop-pair l = IsFilled l.pairs l.pair-index l.filter
