use Rattle.par2_solve.proofs.Names.{are_written, byte_lists, lists_of}
use Rattle.par2_solve.proofs.additions.write_recovery_slices.Goals as goal

pub returns : goal.returns
returns c =
    are_written c.args.outputs.now.places.now c.args.outputs.now.words c.args.exponents.now (byte_lists c.args.slices.now) (lists_of c.args.buffers.now) (lists_of c.add_recovery.new.buffers)
    c.buffers_fit.ensures c.fit_lists.ensures c.requires.room c.requires.zeros c.in_ok-add_recovery.ensures
