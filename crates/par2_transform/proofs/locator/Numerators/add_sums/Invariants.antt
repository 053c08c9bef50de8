use Rattle.par2_transform.proofs.Names.{◌≡◌, lists_of, numerator_word, WordsAdded}
use Rattle.par2_transform.proofs.locator.Numerators.add_sums.Given as goal

abbrev pub invariant-loop-k : goal.invariant-loop-k
invariant-loop-k l = record {
  levels : l.scratch.rows.levels ≡ l.self.levels;
  words : l.scratch.rows.words ≡ l.width;
  added : WordsAdded l.outputs l.width (numerator_word l.self l.sources) l.k (lists_of l.fn.buffers) (lists_of l.buffers);
}
