use Rattle.par2_slices.proofs.Names.{ℕ, ◌∙◌, ◌++◌, ◌*◌, List, replicate, subst, ap, arith, Holds, md5, more_zeros, last_zeros}
use Rattle.par2_slices.proofs.checksum.padded_md5.Goals as goal

pub loop-preserved : goal.loop-preserved
loop-preserved c =
    let before = c.args.bytes.now ++ replicate (c.loop.counter * 1024) 0 in
    subst (λ (m : List ℕ). Holds c.update-in-loop.new.self m) (more_zeros c.args.bytes.now c.loop.counter 1024) (c.update-in-loop.ensures before c.loop.invariant)

pub returns : goal.returns
returns c =
    let before = c.args.bytes.now ++ replicate (c.loop.counter * 1024) 0 in
    c.finalize.ensures _ (c.update-2.ensures before c.loop.invariant)
    ∙ ap md5 (last_zeros c.args.bytes.now c.args.s c.loop.counter (omega arith))
