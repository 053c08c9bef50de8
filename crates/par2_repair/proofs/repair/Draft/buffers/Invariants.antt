use Rattle.par2_repair.proofs.Common.{◌≡◌, map, take, buffers_written, change_of}
use Rattle.par2_md5_lanes.specs.Messages.{buffers_of}
use Rattle.par2_repair.proofs.repair.Draft.buffers.Given as goal

abbrev pub invariant-loop-change : goal.invariant-loop-change
invariant-loop-change l = buffers_of l.buffers.items ≡ buffers_written (map change_of (take l.change-index l.change-items))
