use Rattle.par2_gf16.proofs.Names.{◌/◌, ◌^◌, ◌∙◌, ap, arith, length, length-map, splat_is_map, zip2_splat, down, lanes_start, lanes_step, lanes_done}
use Rattle.par2_gf16.proofs.lanes.product_lanes.Goals as goal

pub loop-j-init : goal.loop-j-init
loop-j-init c = lanes_start c.args.c c.args.v _ c.ranges.c.fits (splat_is_map c.args.v 16 0 c.fits-v.0)

pub loop-j-preserved : goal.loop-j-preserved
loop-j-preserved c =
    let l = c.loop-j in
    let count = ap length l.invariant.left ∙ length-map c.args.v (λ x. x / 2 ^ l.j) ∙ c.fits-v.0 in
    lanes_step c.args.c c.args.v l.sum l.rest _ _ l.k _ l.j c.ranges.c.fits (omega arith) l.invariant c.select_add-sum.ensures (zip2_splat down l.rest 16 1 count) c.doubled-k.ensures

pub returns : goal.returns
returns c = let l = c.loop-j in lanes_done c.args.c c.args.bits c.args.v l.sum l.rest l.k l.j (omega arith) c.requires.lanes l.invariant
