use Rattle.par2_transform.proofs.fourier.+evaluate_run.Given as goal

abbrev pub decreases-evaluate_run : goal.decreases-evaluate_run
decreases-evaluate_run l = l.i
