use Rattle.par2_gf16.proofs.Words.{interleaving}
use Rattle.par2_gf16.proofs.lanes.interleaved.Goals as goal

pub returns : goal.returns
returns c = interleaving c.args.low c.args.high c.fits-low.0 c.fits-high.0
