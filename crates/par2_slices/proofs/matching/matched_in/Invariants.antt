use Rattle.par2_slices.proofs.Common.{◌≡◌, ◌++◌, ◌<◌, List, length, drop, All, Describe, matched_from, matched_numbers, buffers_of}
use Rattle.par2_spec.specs.Sets as sets
use Rattle.par2_slices.proofs.matching.matched_in.Given as goal

abbrev pub invariant-loop-target : goal.invariant-loop-target
invariant-loop-target l = record {
  free : All (λ i. i < length l.fn.files.buffers.now) l.free.items;
  numbers : (ts : List sets.Target) → Describe l.targets ts → l.numbers.items ++ matched_from l.fn.files.s (buffers_of l.fn.files.buffers.now) l.free.items (drop l.target-index ts) ≡ matched_numbers l.fn.files.s (buffers_of l.fn.files.buffers.now) ts;
}
