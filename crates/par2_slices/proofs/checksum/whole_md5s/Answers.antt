use Rattle.par2_slices.proofs.Names.{arith, digest_is}
use Rattle.par2_slices.proofs.checksum.whole_md5s.Goals as goal

pub returns : goal.returns
returns c = λ k below.
    let group = c.args.group in
    digest_is group.s group.first c.args.count k group.bytes.now c.starts_from.result _ (c.requires.whole (omega (arith, below))) below (c.starts_from.ensures k (omega (arith, below, c.requires.own, group.few))) (c.window_digests.ensures k below)
