use Rattle.par2_gf16.proofs.Common.{◌*◌, AddsEach, mul, word_of}
use Rattle.par2_gf16.proofs.factor.Factor.add_products.Given as goal

abbrev pub invariant-loop-k : goal.invariant-loop-k
invariant-loop-k l = AddsEach (λ p. mul l.self (word_of l.vectors p)) l.initial.dst l.dst 0 (32 * l.k)
