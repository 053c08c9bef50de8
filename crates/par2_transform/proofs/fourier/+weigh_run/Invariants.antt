use Rattle.par2_transform.proofs.fourier.+weigh_run.Given as goal

abbrev pub decreases-weigh_run : goal.decreases-weigh_run
decreases-weigh_run l = l.i
