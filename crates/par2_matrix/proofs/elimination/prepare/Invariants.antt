use Rattle.par2_matrix.proofs.elimination.prepare.Given as goal

abbrev pub ghost-reduce : goal.ghost-reduce
ghost-reduce g a = g.rank
