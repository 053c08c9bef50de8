use Rattle.library_tests.proofs.Common.{ℕ, ◌<◌, ◌≡◌, ◌*◌, length}
use Rattle.par2_spec.specs.Prelude.{list_at, lists_of}
use Rattle.library_tests.proofs.transform.have_words.Given as goal

abbrev pub invariant-loop-t : goal.invariant-loop-t
invariant-loop-t l = (i : ℕ) → i < l.t → length (list_at (lists_of l.buffers) i) ≡ 2 * l.words
