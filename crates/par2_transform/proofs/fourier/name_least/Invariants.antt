use Rattle.par2_transform.proofs.GridLaws.{NamedFrom}
use Rattle.par2_transform.proofs.fourier.name_least.Given as goal

abbrev pub invariant-loop-a : goal.invariant-loop-a
invariant-loop-a l = NamedFrom l.a l.fn.next l.next
