use Rattle.par2_md5_lanes.proofs.Names.{◌<◌, ◌^◌, get_or, arith, Each1-get_or, below_from_Fits, w32, lanes, terms_of_g}
use Rattle.par2_md5_lanes.proofs.blocks.SimdU32Lanes.plus_g.Goals as goal

pub returns : goal.returns
returns g c = λ k h.
    let fits : get_or c.args.z k 0 < 2 ^ 32 = Each1-get_or (λ z. z < 2 ^ 32) c.args.z k 0 (omega (arith, c.fits-z.0, h)) (below_from_Fits w32 c.args.z c.fits-z.1) in
    grind (arith, lanes, terms_of_g)
