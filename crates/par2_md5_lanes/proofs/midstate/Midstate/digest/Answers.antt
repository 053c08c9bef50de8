use Rattle.par2_md5_lanes.proofs.Common.{arith, digest_bytes, hash_after, md5, common_steps}
use Rattle.par2_md5_lanes.proofs.midstate.Midstate.digest.Goals as goal

pub returns : goal.returns
unfolding md5
returns c = grind (arith, common_steps, digest_bytes, hash_after, c.absorb.ensures, c.digest_of.ensures, c.ending.ensures)
