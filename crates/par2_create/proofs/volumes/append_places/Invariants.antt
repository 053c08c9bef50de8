use Rattle.par2_create.proofs.Common.{◌≡◌, ◌++◌, map, range_with_len, place_in}
use Rattle.par2_create.proofs.volumes.append_places.Given as goal

abbrev pub invariant-loop-k : goal.invariant-loop-k
invariant-loop-k l = l.places.items ≡ l.initial.places.items ++ map (place_in l.parts l.i) (range_with_len 0 l.k)
