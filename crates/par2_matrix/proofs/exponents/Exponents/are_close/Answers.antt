use Rattle.par2_matrix.proofs.Names.{close-iff, length, not_empty, rises_to_the_end, rules}
use Rattle.par2_matrix.proofs.exponents.Exponents.are_close.Goals as goal

pub overflow_sub-span-2 : goal.overflow_sub-span-2
overflow_sub-span-2 c = rises_to_the_end c.args.self.now.numbers.now c.args.self.now.rise (not_empty (length c.args.self.now.numbers.now) (search rules))

pub returns : goal.returns
returns c = close-iff c.args.self.now.numbers.now c.args.count c.args.self.now.rise (not_empty (length c.args.self.now.numbers.now) (search rules))
