use Rattle.par2_sets.proofs.Common.{◌≡◌, Some, map, take, all_some, description_of, packet_view}
use Rattle.par2_sets.proofs.set.descriptions.Given as goal

abbrev pub invariant-loop-k : goal.invariant-loop-k
invariant-loop-k l = all_some (map (description_of (map packet_view l.packets)) (take l.k l.main.ids)) ≡ Some l.descriptions.items
