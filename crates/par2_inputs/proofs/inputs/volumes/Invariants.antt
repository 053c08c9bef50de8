use Rattle.par2_inputs.proofs.Names.{◌≡◌, None, long_name, volume_names, volumes_below}
use Rattle.par2_inputs.proofs.inputs.volumes.Given as goal

abbrev pub invariant-loop-i : goal.invariant-loop-i
invariant-loop-i l =
    (l.volumes.items ≡ volumes_below l.base l.first l.count l.i)
    × (long_name (volume_names (volumes_below l.base l.first l.count l.i)) ≡ None)
