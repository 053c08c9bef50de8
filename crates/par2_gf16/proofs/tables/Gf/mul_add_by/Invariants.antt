use Rattle.par2_gf16.proofs.Common.{◌*◌, AddsEach, mul, word}
use Rattle.par2_gf16.proofs.tables.Gf.mul_add_by.Given as goal

abbrev pub invariant-loop-k : goal.invariant-loop-k
invariant-loop-k l = AddsEach (λ p. mul l.factor (word p l.src)) l.initial.dst l.dst 0 (32 * l.k)
