use Rattle.par2_gf16.proofs.Names.{◌+◌, ◌*◌, ap₂, lane_of, zeros_read}
use Rattle.par2_gf16.proofs.vectors.WordVector.zeros.Goals as goal

pub returns : goal.returns
returns c = λ j. ap₂ (λ a b. a + 256 * b) (zeros_read 32 (lane_of j)) (zeros_read 32 (lane_of j))
