use Rattle.par2_sets.proofs.Common.{HasFirsts}
use Rattle.par2_sets.proofs.set.firsts.Given as goal

abbrev pub invariant-loop-key : goal.invariant-loop-key
invariant-loop-key g l = HasFirsts g.K.Ord.cmp l.yielded l.firsts
