use Rattle.par2_gf16.proofs.Names.{◌%◌, ◌/◌, mul, product_in}
use Rattle.par2_gf16.proofs.factor.NibbleProducts.times.Goals as goal

pub returns : goal.returns
returns c =
    let it = c.args.self.now in
    product_in (mul it.element) c.args.nibbles c.looked_up.result c.looked_up-2.result c.fits-nibbles.0
    (c.looked_up.ensures (λ n. mul it.element n % 256) it.lows) (c.looked_up-2.ensures (λ n. mul it.element n / 256) it.highs)
