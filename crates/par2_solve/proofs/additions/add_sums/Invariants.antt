use Rattle.par2_solve.proofs.Names.{lists_of, sum_word, FirstAdded}
use Rattle.par2_solve.proofs.additions.add_sums.Given as goal

abbrev pub invariant-loop-t : goal.invariant-loop-t
invariant-loop-t l = FirstAdded l.columns.outputs.places.now l.columns.outputs.words l.t (sum_word l.columns.from l.columns.to (lists_of l.sums)) (lists_of l.initial.buffers) (lists_of l.buffers)
