use Rattle.par2_transform.proofs.Names.{◌≡◌, length, arith, rules, words_added}
use Rattle.par2_transform.proofs.outputs.add.Goals as goal

pub returns : goal.returns
returns c =
    let size : length c.loop-k.dst ≡ length c.args.dst.now = search rules in
    words_added c.args.src.now c.args.dst.now c.loop-k.dst size c.fit_bytes.ensures c.fit_bytes-2.ensures (λ k h. c.loop-k.invariant.0 k (omega arith))
