use Rattle.par2_solve.proofs.Names.{lists_of, next_sum}
use Rattle.par2_solve.proofs.additions.add_sums.Goals as goal

pub loop-t-preserved : goal.loop-t-preserved
loop-t-preserved c =
    next_sum c.args.columns.now.outputs.places.now c.args.columns.now.outputs.words c.args.columns.now.from c.args.columns.now.to c.loop-t.t c.buffer_at.result.now (lists_of c.args.sums.now) (lists_of c.args.buffers.now) (lists_of c.loop-t.buffers) (lists_of c.add.new.buffers)
    c.buffer_at.ensures c.loop-t.invariant c.add.ensures
