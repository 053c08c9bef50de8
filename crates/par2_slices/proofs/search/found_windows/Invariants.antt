use Rattle.par2_slices.proofs.Common.{◌≡◌, map, take, found, AreShort, padded_windows, buffers_of}
use Rattle.par2_slices.proofs.search.found_windows.Given as goal

abbrev pub invariant-loop-position : goal.invariant-loop-position
invariant-loop-position l = record {
  first : padded_windows l.s l.windows.items ≡ map (found l.s (buffers_of l.buffers)) (take l.position-index l.pairs);
  short : AreShort l.s l.windows.items;
}
