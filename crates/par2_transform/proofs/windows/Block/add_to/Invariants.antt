use Rattle.par2_transform.proofs.Names.{lists_of, cut_of, OutputsAdded}
use Rattle.par2_transform.proofs.windows.Block.add_to.Given as goal

abbrev pub invariant-loop-t : goal.invariant-loop-t
invariant-loop-t l = OutputsAdded l.columns.outputs.places.now l.columns.outputs.words (cut_of l.class.plan) l.fn.self.sums l.fn.self.exponent l.class.number l.columns.from l.columns.to l.first l.t (lists_of l.fn.buffers) (lists_of l.buffers)
