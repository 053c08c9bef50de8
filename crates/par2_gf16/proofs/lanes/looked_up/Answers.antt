use Rattle.par2_gf16.proofs.Words.{places_ok, looked_up}
use Rattle.par2_gf16.proofs.lanes.looked_up.Goals as goal

pub swizzle : goal.swizzle
swizzle c = places_ok c.args.v c.fits-v.0 c.requires

pub returns : goal.returns
returns c = λ f table. looked_up f c.args.table c.args.v table c.fits-v.0 c.requires
