use Rattle.par2_gf16.proofs.Names.{◌%◌, ◌/◌, ◌++◌, ◌∙◌, ap₂, mul, byte_table}
use Rattle.par2_gf16.proofs.factor.NibbleProducts.new.Goals as goal

pub invariant_of-result : goal.invariant_of-result
invariant_of-result c =
    let once = c.product_lanes-products.ensures in
    let both = c.twice-products.ensures ∙ ap₂ (λ xs ys. xs ++ ys) once once in
    record {
      fits = c.ranges.element.fits;
      lows = byte_table (mul c.args.element) (λ x. x % 256) c.twice-products.result c.lower_bytes-low.result both c.lower_bytes-low.ensures;
      highs = byte_table (mul c.args.element) (λ x. x / 256) c.twice-products.result c.higher_bytes-high.result both c.higher_bytes-high.ensures;
    }
