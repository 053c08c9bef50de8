use Rattle.par2_transform.proofs.Names.{lists_of, cut_of, AddedSoFar}
use Rattle.par2_transform.proofs.windows.add_all.Given as goal

abbrev pub invariant-loop-j : goal.invariant-loop-j
invariant-loop-j l = AddedSoFar l.columns.outputs.places.now l.columns.outputs.words (cut_of l.class.plan) l.class.plan.block l.class.number l.columns.from l.columns.to l.j l.initial.blocks l.blocks (lists_of l.initial.buffers) (lists_of l.buffers)
