use Rattle.par2_files.proofs.Names.{[], subst, AreTo, bytes_more}
use Rattle.par2_files.proofs.walk.states_with.Goals as goal

pub loop-bytes-preserved : goal.loop-bytes-preserved
loop-bytes-preserved c = λ before are.
    subst (AreTo c.push.new.self) (bytes_more before c.args.buffers.now c.loop-bytes.bytes-index _ c.loop-bytes-test.true)
    (c.in_ok-push.ensures _ _ (c.loop-bytes.invariant before are) (c.in_ok-pending_of_bytes.ensures [] c.new.ensures))
