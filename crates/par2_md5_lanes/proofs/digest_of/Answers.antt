use Rattle.par2_md5_lanes.proofs.Common.{refl, digest_bytes}
use Rattle.par2_md5_lanes.proofs.digest_of.Goals as goal

pub returns : goal.returns
unfolding digest_bytes
returns c = rw (c.to_le_bytes.ensures, c.to_le_bytes-2.ensures, c.to_le_bytes-3.ensures, c.to_le_bytes-4.ensures) refl
