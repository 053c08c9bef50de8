use Rattle.par2_solve.proofs.Common.{length, ◌*◌, min, lists_of, Adds, byte_lists}
use Rattle.par2_solve.proofs.products.add_matrix_product.Given as goal

abbrev pub invariant-loop-block : goal.invariant-loop-block
invariant-loop-block l = Adds (lists_of l.factors) (byte_lists l.sources) (lists_of l.initial.targets) (lists_of l.targets) 0 (min l.words (l.block * 4096)) (length l.sources)
