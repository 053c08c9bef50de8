use Rattle.par2_matrix.proofs.Names.{arith, window_holds}
use Rattle.par2_matrix.proofs.exponents.Front.count_equations.Goals as goal

pub overflow_sub-result : goal.overflow_sub-result
overflow_sub-result c = let holds = window_holds c.args.self.now.numbers.now c.args.self.now.rise in omega (arith, holds, c.span.ensures)

pub returns : goal.returns
returns c = let holds = window_holds c.args.self.now.numbers.now c.args.self.now.rise in omega (arith, holds, c.span.ensures)
