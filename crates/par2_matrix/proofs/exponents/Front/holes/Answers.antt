use Rattle.par2_matrix.proofs.Names.{ap, append-nil, arith, not, one_place_more}
use Rattle.par2_matrix.proofs.exponents.Front.holes.Goals as goal

pub loop-x-preserved : goal.loop-x-preserved
loop-x-preserved c = grind (arith, one_place_more c.args.self.now.numbers.now c.loop-x.x (not c.contains.result) (ap not c.contains.ensures), append-nil)
