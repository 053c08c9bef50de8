use Rattle.par2_slices.proofs.Common.{◌≡◌, drop, Describes, first_intact, buffers_of}
use Rattle.par2_spec.specs.Sets as sets
use Rattle.par2_slices.proofs.matching.first_intact.Given as goal

abbrev pub invariant-loop-i : goal.invariant-loop-i
invariant-loop-i l = (t : sets.Target) → Describes l.target t
    → let first = first_intact l.fn.files.s (buffers_of l.fn.files.buffers.now) t in first (drop l.i-index l.free) ≡ first l.free
