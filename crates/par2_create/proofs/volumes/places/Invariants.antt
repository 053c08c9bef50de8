use Rattle.par2_create.proofs.Common.{◌≡◌, take, flat_map, enumerate_from, places_in}
use Rattle.par2_create.proofs.volumes.places.Given as goal

abbrev pub invariant-loop-i : goal.invariant-loop-i
invariant-loop-i l = l.places.items ≡ flat_map (places_in l.parts) (take l.i (enumerate_from 0 l.parts.volumes.now))
