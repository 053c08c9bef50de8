use Rattle.par2_gf16.proofs.Words.{vector_added}
use Rattle.par2_gf16.proofs.lanes.add_vector.Goals as goal

pub returns : goal.returns
returns c =
    rw (c.sum.ensures, c.vector_at-old.ensures.value)
    (vector_added c.args.dst.now c.args.v c.args.at c.requires c.fits-v.0 c.vector_at-old.ensures.fit)
