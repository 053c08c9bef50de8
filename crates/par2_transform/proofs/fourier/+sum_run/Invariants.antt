use Rattle.par2_transform.proofs.fourier.+sum_run.Given as goal

abbrev pub decreases-sum_run : goal.decreases-sum_run
decreases-sum_run l = l.i
