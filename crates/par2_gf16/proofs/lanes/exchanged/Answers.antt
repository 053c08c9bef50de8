use Rattle.par2_gf16.proofs.Names.{◌∙◌, map-map, pick_l_left, get_or, lane_of, range_with_len, lanes}
use Rattle.par2_gf16.proofs.lanes.exchanged.Goals as goal

pub returns : goal.returns
returns c =
    let v = c.args.v in
    pick_l_left 0 v v 32 lanes c.fits-v.0 tt ∙ map-map (λ k. get_or v k 0) lane_of (range_with_len 0 32)
