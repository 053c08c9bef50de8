use Rattle.par2_solve.proofs.Names.{◌-◌, get_or, list_at, lists_of, AddsSource, word_of}
use Rattle.par2_solve.proofs.products.add_source.Given as goal

abbrev pub invariant-loop-r : goal.invariant-loop-r
invariant-loop-r l = AddsSource (λ x. get_or (list_at (lists_of l.factors) x) l.k 0) (λ p. word_of l.source (p - l.columns.from)) (lists_of l.initial.targets) (lists_of l.targets) l.columns.from l.columns.to l.r
