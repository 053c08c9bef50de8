use Rattle.par2_transform.proofs.Names.{◌≡◌, slice_index, ahead_below}
use Rattle.par2_transform.proofs.fourier.sum_ahead.Given as goal

abbrev pub invariant-loop-j : goal.invariant-loop-j
invariant-loop-j l = l.sum ≡ ahead_below l.i l.at l.j (slice_index l.words)
