use Rattle.par2_gf16.proofs.Common.{◌∙◌, ap₂, ◌++◌, pick_l_left, pick_l_whole, range_with_len}
use Rattle.par2_gf16.proofs.lanes.twice.Goals as goal

pub returns : goal.returns
returns c =
    let v = c.args.v in
    let once = pick_l_left 0 v v 16 (range_with_len 0 16) c.fits-v.0 tt ∙ pick_l_whole 0 v 16 c.fits-v.0 in
    ap₂ (λ a b. a ++ b) once once
