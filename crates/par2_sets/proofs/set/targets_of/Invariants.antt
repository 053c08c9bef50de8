use Rattle.par2_sets.proofs.Common.{◌≡◌, Some, map, take, all_some, target_of, packet_view}
use Rattle.par2_sets.proofs.set.targets_of.Given as goal

abbrev pub invariant-loop-description : goal.invariant-loop-description
invariant-loop-description l =
    all_some (map (target_of (map packet_view l.packets) l.s) (take l.description-index l.descriptions)) ≡ Some l.targets.items
