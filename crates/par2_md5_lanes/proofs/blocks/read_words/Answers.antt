use Rattle.par2_md5_lanes.proofs.Names.{buffer_at, words_of_quarters}
use Rattle.par2_md5_lanes.proofs.blocks.read_words.Goals as goal

pub returns : goal.returns
returns g c = λ k low.
    words_of_quarters (buffer_at c.args.buffers.now k) _ _ _ _ c.args.offset
    (c.four_words-first.ensures k low) (c.four_words-second.ensures k low) (c.four_words-third.ensures k low) (c.four_words-fourth.ensures k low)
