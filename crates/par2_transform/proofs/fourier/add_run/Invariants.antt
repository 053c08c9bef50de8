use Rattle.par2_transform.proofs.Common.{slice_index, RunAdded}
use Rattle.par2_transform.proofs.fourier.add_run.Given as goal

abbrev pub invariant-loop-e : goal.invariant-loop-e
invariant-loop-e l = RunAdded l.from l.to l.e (slice_index l.initial.words) (slice_index l.words)
