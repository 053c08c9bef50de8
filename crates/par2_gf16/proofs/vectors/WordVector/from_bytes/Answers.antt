use Rattle.par2_gf16.proofs.Names.{drop, lane_word}
use Rattle.par2_gf16.proofs.vectors.WordVector.from_bytes.Goals as goal

pub returns : goal.returns
returns c = lane_word c.words_at.result.0 c.words_at.result.1 (drop c.args.at c.args.bytes.now) c.words_at.ensures
