use Rattle.par2_transform.proofs.Common.{slice_index, IsRaised}
use Rattle.par2_transform.proofs.fourier.lower.Given as goal

abbrev pub invariant-loop-e : goal.invariant-loop-e
invariant-loop-e l = IsRaised l.i l.c l.start l.e (slice_index l.words) (slice_index l.initial.words)
