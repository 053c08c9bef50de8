use Rattle.par2_transform.proofs.fourier.+combine_run.Given as goal

abbrev pub decreases-combine_run : goal.decreases-combine_run
decreases-combine_run l = l.i
