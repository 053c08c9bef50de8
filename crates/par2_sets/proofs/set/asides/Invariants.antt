use Rattle.par2_sets.proofs.Common.{◌≡◌, None, map, take, aside, long_aside}
use Rattle.par2_sets.proofs.set.asides.Given as goal

abbrev pub invariant-loop-name : goal.invariant-loop-name
invariant-loop-name l =
    (l.asides.items ≡ map (aside l.folder.files l.set) (take l.name-index l.names))
    × (long_aside l.folder.files l.set (take l.name-index l.names) ≡ None)
