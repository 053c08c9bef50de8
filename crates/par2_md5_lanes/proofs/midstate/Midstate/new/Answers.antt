use Rattle.par2_md5_lanes.proofs.Common.{refl, hash_after}
use Rattle.par2_md5_lanes.proofs.midstate.Midstate.new.Goals as goal

pub returns : goal.returns
unfolding hash_after
returns c = (refl, (refl, refl))
