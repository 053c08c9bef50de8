use Rattle.par2_transform.proofs.Common.{◌≡◌, ◌<◌, ◌≤◌, ℕ, bit_xor, slice_index}
use Rattle.par2_transform.proofs.outputs.add.Given as goal

abbrev pub invariant-loop-k : goal.invariant-loop-k
invariant-loop-k l =
    ((k : ℕ) → k < l.k → slice_index l.dst k ≡ bit_xor (slice_index l.initial.dst k) (slice_index l.src k))
    × ((k : ℕ) → l.k ≤ k → slice_index l.dst k ≡ slice_index l.initial.dst k)
