use Rattle.par2_create.proofs.Common.{◌≡◌, map, take, drop, lists_of, with_slices, as_file, volume_file_name}
use Rattle.par2_create.proofs.volumes.digested.Given as goal

abbrev pub invariant-loop-volume : goal.invariant-loop-volume
invariant-loop-volume l = record {
  done : map as_file l.files.items ≡ map (λ volume. (volume.name, volume_file_name l.parts volume)) (take l.volume-index l.parts.volumes.now);
  left : lists_of l.buffers.items ≡ map (with_slices l.parts) (drop l.volume-index l.parts.volumes.now);
}
