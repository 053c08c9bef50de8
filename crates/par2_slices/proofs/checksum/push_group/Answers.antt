use Rattle.par2_slices.proofs.Names.{◌≡◌, ◌+◌, ◌++◌, ◌∷◌, [], ap₂, arith, rules, digest_at, one_pair_more}
use Rattle.par2_slices.proofs.checksum.push_group.Goals as goal

pub loop-k-preserved : goal.loop-k-preserved
loop-k-preserved c =
    let group = c.args.group in
    let first = group.first in
    let k = c.loop-k.k in
    let md5s = c.slice_md5s-md5s.result in
    let pushed : c.push.new.self.items ≡ c.loop-k.pairs.items ++ (digest_at md5s k, c.slice_crc32.result) ∷ [] = search rules in
    one_pair_more group.s group.bytes.now (first + k) (first + (k + 1)) c.loop-k.pairs.items c.push.new.self.items (digest_at md5s k, c.slice_crc32.result) c.loop-k.invariant
    (ap₂ (λ a b. (a, b)) (c.slice_md5s-md5s.ensures k c.loop-k-test.true) c.slice_crc32.ensures) pushed (omega arith)
