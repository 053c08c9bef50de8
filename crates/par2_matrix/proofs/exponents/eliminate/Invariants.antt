use Rattle.par2_matrix.proofs.Ranks.{Standing}
use Rattle.par2_matrix.proofs.exponents.eliminate.Given as goal

abbrev pub invariant-loop-i : goal.invariant-loop-i
invariant-loop-i l = Standing l.lost l.units l.exponents.numbers.now l.kept.items l.i l.system
