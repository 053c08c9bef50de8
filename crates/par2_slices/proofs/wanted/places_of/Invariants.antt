use Rattle.par2_slices.proofs.Names.{◌≡◌, map, range_with_len, place_of}
use Rattle.par2_slices.proofs.wanted.places_of.Given as goal

abbrev pub invariant-loop-index : goal.invariant-loop-index
invariant-loop-index l = l.places.items ≡ map (place_of l.pairs) (range_with_len 0 l.index)
