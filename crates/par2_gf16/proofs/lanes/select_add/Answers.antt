use Rattle.par2_gf16.proofs.Words.{select_lanes}
use Rattle.par2_gf16.proofs.lanes.select_add.Goals as goal

pub returns : goal.returns
returns c = select_lanes 16 c.args.k c.args.sum c.args.v c.fits-sum.0 c.fits-v.0
