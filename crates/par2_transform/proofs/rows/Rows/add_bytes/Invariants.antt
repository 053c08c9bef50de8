use Rattle.par2_transform.proofs.Common.{AreRewritten, ◌+◌, ◌*◌, ◌≤◌, length, mul, word, word_of, AddsToRun}
use Rattle.par2_transform.proofs.rows.Rows.add_bytes.Given as goal

abbrev pub invariant-loop-k : goal.invariant-loop-k
invariant-loop-k l = (64 * l.k-end ≤ length l.source) × ((l.start + l.k-end ≤ length l.initial.vectors)
    × (AreRewritten l.initial.vectors l.vectors × AddsToRun (32 * l.start) (32 * l.k) (λ e. mul l.factor (word e l.source)) (word_of l.initial.vectors) (word_of l.vectors)))
