use Rattle.par2_transform.proofs.Common.{AreRewritten, ◌*◌, mul, word_of, AddsToRun}
use Rattle.par2_transform.proofs.rows.Rows.add_other.Given as goal

abbrev pub invariant-loop-k : goal.invariant-loop-k
invariant-loop-k l = AreRewritten l.initial.vectors l.vectors × AddsToRun (32 * l.start) (32 * l.k) (λ e. mul l.factor (word_of l.row e)) (word_of l.initial.vectors) (word_of l.vectors)
