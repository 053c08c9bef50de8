use Rattle.par2_inputs.proofs.Names.{◌≡◌, subst, arith, None, long_name, volume_names, volumes_below}
use Rattle.par2_inputs.proofs.inputs.volumes.Goals as goal

pub returns-clause-short : goal.returns-clause-short
returns-clause-short c =
    subst (λ i. long_name (volume_names (volumes_below c.args.base.now c.args.first c.args.count i)) ≡ None) (let e : c.loop-i.i ≡ 17 = omega arith in e) c.loop-i.invariant.1
