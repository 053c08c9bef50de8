use Rattle.par2_gf16.proofs.Names.{◌/◌, ◌<◌, replicate, map, ◌∙◌, ap, arith, w8, w16, Fits, Each1-zip2, Each2-splat, Each1-weaker, zip2_splat, map-map, below_from_Fits, down}
use Rattle.par2_gf16.proofs.lanes.higher_bytes.Goals as goal

pub overflow_cast-result : goal.overflow_cast-result
overflow_cast-result c =
    Each1-zip2 down (λ x. Fits w8 x) c.args.v (replicate 32 8) (Each2-splat (λ a b. Fits w8 (down a b)) c.args.v 32 8
    (Each1-weaker (λ a. a < 65536) (λ a. Fits w8 (down a 8)) (λ a h. record { fits = omega arith }) c.args.v (below_from_Fits w16 c.args.v c.fits-v.1)))

pub returns : goal.returns
returns c =
    ap (map (λ x. x)) (zip2_splat down c.args.v 32 8 c.fits-v.0) ∙ map-map (λ x. x) (λ x. x / 256) c.args.v
