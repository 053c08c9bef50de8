use Rattle.par2_md5_lanes.proofs.Names.{◌+◌, ◌*◌, length, min, arith, buffers_more}
use Rattle.par2_md5_lanes.proofs.tasks.buffer_digests.Goals as goal

pub loop-group-preserved : goal.loop-group-preserved
loop-group-preserved c =
    let buffers = c.args.buffers.now in
    let group = c.loop-group.group in
    buffers_more buffers c.loop-group.digests.items c.push_digests.new.all.items (min (group * 16) (length buffers)) (group * 16) _ (min ((group + 1) * 16) (length buffers)) c.loop-group.invariant
    c.in_ok-push_digests.ensures (omega arith) (omega arith)
