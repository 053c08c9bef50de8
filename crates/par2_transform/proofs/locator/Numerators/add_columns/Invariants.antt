use Rattle.par2_transform.proofs.Names.{lists_of, byte_lists, words_at, within, numerator, FirstAdded}
use Rattle.par2_transform.proofs.locator.Numerators.add_columns.Given as goal

abbrev pub invariant-loop-t : goal.invariant-loop-t
invariant-loop-t l =
    FirstAdded l.columns.outputs.places.now l.columns.outputs.words (λ t p. within l.columns.from l.columns.to p (numerator l.self.sequence.items (words_at (byte_lists l.sources) p) t)) l.t (lists_of l.fn.buffers) (lists_of l.buffers)
