use Rattle.par2_matrix.proofs.Names.{rises_to_the_end}
use Rattle.par2_matrix.proofs.exponents.Front.span.Goals as goal

pub overflow_sub-result-2 : goal.overflow_sub-result-2
overflow_sub-result-2 c = rises_to_the_end c.args.self.now.numbers.now c.args.self.now.rise c.args.self.now.some
