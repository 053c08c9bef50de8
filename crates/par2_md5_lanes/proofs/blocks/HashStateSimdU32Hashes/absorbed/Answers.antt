use Rattle.par2_md5_lanes.proofs.Names.{◌*◌, arith, drop, take, rules, lane, slice_index, hash_behind, buffer_at, after_words, hash_one_more}
use Rattle.par2_md5_lanes.proofs.blocks.HashStateSimdU32Hashes.absorbed.Goals as goal

pub loop-block-init : goal.loop-block-init
unfolding hash_behind
loop-block-init g c = search (rules, arith)

pub loop-block-preserved : goal.loop-block-preserved
loop-block-preserved g c = λ k low.
    let block = c.loop-block.block in
    let bytes = buffer_at c.args.buffers.now k in
    after_words _ _ _ _ (take 64 (drop (64 * block) bytes)) _ (c.compressed-after.ensures k low) (c.loop-block.invariant k low) (c.read_words.ensures k low)
    (hash_one_more (lane slice_index k c.args.self) bytes block)
