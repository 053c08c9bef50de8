use Rattle.par2_gf16.proofs.Names.{◌/◌, arith, shifted, small_places}
use Rattle.par2_gf16.proofs.lanes.high_nibbles.Goals as goal

pub returns-clause-value : goal.returns-clause-value
returns-clause-value c = shifted c.args.v c.fits-v.0

pub returns-clause-small : goal.returns-clause-small
returns-clause-small c = small_places (λ x. x / 16) (λ x h. omega arith) c.args.v _ c.fits-v.1 (shifted c.args.v c.fits-v.0)
