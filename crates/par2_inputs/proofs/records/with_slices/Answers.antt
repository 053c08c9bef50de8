use Rattle.par2_inputs.proofs.IndexBytes.{slices_push}
use Rattle.par2_inputs.proofs.records.with_slices.Goals as goal

pub loop-j-preserved : goal.loop-j-preserved
loop-j-preserved c = rw c.in_ok-push.ensures.items (slices_push c.args.s c.loop-j.j c.args.bytes.now c.loop-j.all.items c.slice_bytes.result _ c.loop-j.invariant c.slice_bytes.ensures.value)
