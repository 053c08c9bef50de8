use Rattle.par2_transform.proofs.Names.{◌≡◌, lists_of, byte_lists, words_at, quotient_sum, CosetsAdded}
use Rattle.par2_transform.proofs.locator.Locator.add_columns.Given as goal

abbrev pub invariant-loop-coset : goal.invariant-loop-coset
invariant-loop-coset l = record {
  kept : l.scratch.rows ≡ l.initial.scratch.rows;
  added : CosetsAdded l.columns.outputs.places.now l.columns.outputs.words l.self.numbers.items l.self.levels l.columns.from l.columns.to (λ t p. quotient_sum l.self.numerators.sequence.items l.self.points.items l.self.factors.items (words_at (byte_lists l.sources) p) t) l.coset (lists_of l.fn.buffers) (lists_of l.buffers);
}
