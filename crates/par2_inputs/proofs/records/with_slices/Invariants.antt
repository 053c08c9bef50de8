use Rattle.par2_inputs.proofs.Common.{◌≡◌, ◌++◌, map, range_with_len, padded, slice_at, buffers_of}
use Rattle.par2_inputs.proofs.records.with_slices.Given as goal

abbrev pub invariant-loop-j : goal.invariant-loop-j
invariant-loop-j l = map (padded l.s) (buffers_of l.all.items) ≡ map (padded l.s) (buffers_of l.fn.slices.items) ++ map (slice_at l.s l.bytes) (range_with_len 0 l.j)
