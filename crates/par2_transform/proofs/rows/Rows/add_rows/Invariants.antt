use Rattle.par2_transform.proofs.Common.{AreRewritten, AreTwoRuns, ◌*◌, length, word_of, times, RunAddedBy}
use Rattle.par2_transform.proofs.rows.Rows.add_rows.Given as goal

abbrev pub invariant-loop-k : goal.invariant-loop-k
invariant-loop-k l = AreTwoRuns (length l.initial.vectors) l.from l.to l.count
    × (AreRewritten l.initial.vectors l.vectors × RunAddedBy (times l.fn.by) (32 * l.from) (32 * l.to) (32 * l.k) (word_of l.initial.vectors) (word_of l.vectors))
