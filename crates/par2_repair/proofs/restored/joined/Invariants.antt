use Rattle.par2_repair.proofs.Common.{◌≡◌, map, take, concat, padded, buffers_of}
use Rattle.par2_repair.proofs.restored.joined.Given as goal

abbrev pub invariant-loop-slice : goal.invariant-loop-slice
invariant-loop-slice l = l.file.items ≡ take l.size (concat (map (padded l.slice_size) (buffers_of (take l.slice-index l.slices))))
