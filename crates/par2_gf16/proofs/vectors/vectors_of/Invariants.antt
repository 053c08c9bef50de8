use Rattle.par2_gf16.proofs.Common.{ℕ, ◌*◌, ◌<◌, ◌≡◌, length, word, word_of}
use Rattle.par2_gf16.proofs.vectors.vectors_of.Given as goal

abbrev pub invariant-loop-k : goal.invariant-loop-k
invariant-loop-k l = (length l.vectors.items ≡ l.k) × ((p : ℕ) → p < 32 * l.k → word_of l.vectors.items p ≡ word p l.bytes)
