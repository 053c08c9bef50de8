use Rattle.par2_md5_lanes.proofs.Names.{◌*◌, ◌+◌, ◌-◌, ◌∙◌, ℕ, List, ap, arith, refl, drop, length, take, block_words, slice_index, lane, hash_behind, buffer_at, after_words, hash_one_more, bytes_of_high, bytes_of_low, have_fewer, have_high, have_low}
use Rattle.par2_md5_lanes.proofs.blocks.SixteenHashes.absorbed.Goals as goal

pub read_words-low-requires : goal.read_words-low-requires
read_words-low-requires c =
    let buffers = c.args.buffers.now in
    (omega arith, have_low _ buffers (have_fewer 16 _ _ buffers c.requires (omega (arith, c.loop-block-test.true))))

pub read_words-high-requires : goal.read_words-high-requires
read_words-high-requires c =
    let buffers = c.args.buffers.now in
    (omega arith, have_high _ buffers (have_fewer 16 _ _ buffers c.requires (omega (arith, c.loop-block-test.true))))

pub loop-block-init : goal.loop-block-init
unfolding hash_behind
loop-block-init c = record { low = λ k h. refl; high = λ k h. refl }

pub loop-block-preserved : goal.loop-block-preserved
loop-block-preserved c =
    let buffers = c.args.buffers.now in
    let block = c.loop-block.block in
    let held = c.loop-block.invariant in
    let words = λ (bytes : List ℕ). block_words (take 64 (drop (64 * block) bytes)) 16 in
    record {
      low = λ k low.
          after_words _ _ _ _ (take 64 (drop (64 * block) (buffer_at buffers k))) _ (c.both_compressed-after.ensures.low k low) (held.low k low)
          (c.read_words-low.ensures k low ∙ ap words (bytes_of_low buffers k low))
          (hash_one_more (lane slice_index k c.args.self.0) (buffer_at buffers k) block);
      high = λ k low.
          after_words _ _ _ _ (take 64 (drop (64 * block) (buffer_at buffers (8 + k)))) _ (c.both_compressed-after.ensures.high k low) (held.high k low)
          (c.read_words-high.ensures k low ∙ ap words (bytes_of_high buffers (length buffers - 8) k (omega (arith, low, c.requires.enough))))
          (hash_one_more (lane slice_index k c.args.self.1) (buffer_at buffers (8 + k)) block);
    }
