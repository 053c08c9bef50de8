use Rattle.par2_transform.proofs.Names.{lists_of, byte_lists, words_at, quotient_sum, FirstAdded, coset_part}
use Rattle.par2_transform.proofs.locator.Locator.add_coset.Given as goal

abbrev pub invariant-loop-j : goal.invariant-loop-j
invariant-loop-j l =
    FirstAdded l.columns.outputs.places.now l.columns.outputs.words
    (coset_part l.self.numbers.items l.self.levels l.coset l.columns.from l.columns.to (λ t p. quotient_sum l.self.numerators.sequence.items l.self.points.items l.self.factors.items (words_at (byte_lists l.sources) p) t)) l.j (lists_of l.fn.buffers) (lists_of l.buffers)
