use Rattle.par2_gf16.proofs.Names.{rules, ◌++◌, ◌*◌, block_added, both_added}
use Rattle.par2_gf16.proofs.vectors.WordVector.add_all.Goals as goal

pub returns : goal.returns
returns c =
    let first = c.interleaved.result.0 in
    let second = c.interleaved.result.1 in
    let old = c.args.dst.now in
    let new = c.add_vector-2.new.dst in
    block_added c.args.self.low c.args.self.high old new (first ++ second) c.args.n (λ i. search rules) (λ i. search rules) c.interleaved.ensures
    (both_added old c.add_vector.new.dst new first second (2 * c.args.n) c.add_vector.ensures c.add_vector-2.ensures)
