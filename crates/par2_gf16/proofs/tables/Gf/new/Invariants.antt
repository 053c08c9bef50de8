use Rattle.par2_gf16.proofs.Common.{FirstRound, SecondRound}
use Rattle.par2_gf16.proofs.tables.Gf.new.Given as goal

abbrev pub invariant-loop-i : goal.invariant-loop-i
invariant-loop-i l = FirstRound l.logs.items l.powers.items l.constants.items l.x l.i

abbrev pub invariant-loop-j : goal.invariant-loop-j
invariant-loop-j l = SecondRound l.powers.items l.x l.j
