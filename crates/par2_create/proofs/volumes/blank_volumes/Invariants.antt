use Rattle.par2_create.proofs.Common.{◌≡◌, map, take, lists_of, blank_volume}
use Rattle.par2_create.proofs.volumes.blank_volumes.Given as goal

abbrev pub invariant-loop-volume : goal.invariant-loop-volume
invariant-loop-volume l = lists_of l.buffers.items ≡ map (blank_volume l.parts) (take l.volume-index l.parts.volumes.now)
