use Rattle.par2_transform.proofs.Names.{◌≡◌, lists_of, quotient_word, WordsAdded}
use Rattle.par2_transform.proofs.locator.Locator.add_quotient_sums.Given as goal

abbrev pub invariant-loop-k : goal.invariant-loop-k
invariant-loop-k l = record {
  levels : l.scratch.rows.levels ≡ l.self.numerators.levels;
  words : l.scratch.rows.words ≡ l.width;
  added : WordsAdded l.outputs l.width (quotient_word l.self l.sources) l.k (lists_of l.fn.buffers) (lists_of l.buffers);
}
