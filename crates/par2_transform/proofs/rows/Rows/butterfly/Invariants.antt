use Rattle.par2_transform.proofs.Common.{AreRewritten, ◌+◌, ◌*◌, ◌≤◌, length, mul, word_of, IsButterfly}
use Rattle.par2_transform.proofs.rows.Rows.butterfly.Given as goal

abbrev pub invariant-loop-k : goal.invariant-loop-k
invariant-loop-k l = (l.low + l.count ≤ l.high) × ((l.high + l.count ≤ length l.initial.vectors)
    × (AreRewritten l.initial.vectors l.vectors × IsButterfly (mul l.factor) (32 * l.low) (32 * l.high) (32 * l.k) (word_of l.initial.vectors) (word_of l.vectors)))
