use Rattle.par2_gf16.proofs.Names.{◌%◌, replicate, map, ◌∙◌, ap, arith, w8, Fits, and_mask, Each1-zip2, Each2-splat, Each1-all, zip2_splat, map-map, bit_and, and_le_r, map_all}
use Rattle.par2_gf16.proofs.lanes.lower_bytes.Goals as goal

pub overflow_cast-result : goal.overflow_cast-result
overflow_cast-result c =
    Each1-zip2 bit_and (λ x. Fits w8 x) c.args.v (replicate 32 255) (Each2-splat (λ a b. Fits w8 (bit_and a b)) c.args.v 32 255 (Each1-all (λ a. Fits w8 (bit_and a 255)) (λ a. record { fits = omega (arith, and_le_r a 255) }) c.args.v))

pub returns : goal.returns
returns c =
    ap (map (λ x. x)) (zip2_splat bit_and c.args.v 32 255 c.fits-v.0) ∙ map-map (λ x. x) (λ x. bit_and x 255) c.args.v
    ∙ map_all (λ x. bit_and x 255) (λ x. x % 256) (λ x. and_mask x 8) c.args.v
