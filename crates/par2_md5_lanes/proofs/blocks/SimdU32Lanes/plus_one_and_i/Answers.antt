use Rattle.par2_md5_lanes.proofs.Names.{◌<◌, ◌^◌, get_or, arith, Each1-get_or, below_from_Fits, w32, lanes, without_rest_of_i}
use Rattle.par2_md5_lanes.proofs.blocks.SimdU32Lanes.plus_one_and_i.Goals as goal

pub returns : goal.returns
returns g c = λ k h.
    let fits_x : get_or c.args.x k 0 < 2 ^ 32 = Each1-get_or (λ m. m < 2 ^ 32) c.args.x k 0 (omega (arith, c.fits-x.0, h)) (below_from_Fits w32 c.args.x c.fits-x.1) in
    let fits_y : get_or c.args.y k 0 < 2 ^ 32 = Each1-get_or (λ m. m < 2 ^ 32) c.args.y k 0 (omega (arith, c.fits-y.0, h)) (below_from_Fits w32 c.args.y c.fits-y.1) in
    let fits_z : get_or c.args.z k 0 < 2 ^ 32 = Each1-get_or (λ m. m < 2 ^ 32) c.args.z k 0 (omega (arith, c.fits-z.0, h)) (below_from_Fits w32 c.args.z c.fits-z.1) in
    grind (arith, lanes, without_rest_of_i)
