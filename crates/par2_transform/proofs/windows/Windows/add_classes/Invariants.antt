use Rattle.par2_transform.proofs.Names.{lists_of, cut_of, ClassesAdded}
use Rattle.par2_transform.proofs.windows.Windows.add_classes.Given as goal

abbrev pub invariant-loop-r : goal.invariant-loop-r
invariant-loop-r l =
    ClassesAdded l.columns.outputs.places.now l.columns.outputs.words (cut_of l.self.plan) l.self.slices l.self.plan.columns l.self.first l.self.plan.block l.columns.from l.columns.to l.r l.rows l.blocks (lists_of l.fn.buffers) (lists_of l.buffers)
