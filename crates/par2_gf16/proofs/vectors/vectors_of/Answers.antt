use Rattle.par2_gf16.proofs.Names.{[], ◌∷◌, arith, length-append, all_vectors, next_vector}
use Rattle.par2_gf16.proofs.vectors.vectors_of.Goals as goal

pub loop-k-preserved : goal.loop-k-preserved
loop-k-preserved c =
    let vectors = c.loop-k.vectors.items in
    let one = c.padded.result in
    rw c.in_ok-push.ensures.items
    (omega (arith, length-append vectors (one ∷ []), c.loop-k.invariant.0), next_vector c.args.bytes.now vectors one c.loop-k.k c.loop-k.invariant.0 c.loop-k.invariant.1 c.padded.ensures)

pub returns-clause-words : goal.returns-clause-words
returns-clause-words c = all_vectors c.args.bytes.now c.loop-k.vectors.items c.loop-k.k (omega arith) c.loop-k.invariant.0 c.loop-k.invariant.1
