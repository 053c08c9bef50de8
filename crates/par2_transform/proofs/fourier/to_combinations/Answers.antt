use Rattle.par2_transform.proofs.Names.{IsCombination, each_so, combination_of_first, whole_run}
use Rattle.par2_transform.proofs.fourier.to_combinations.Goals as goal

pub returns : goal.returns
returns c = let k = c.args.levels in each_so c.combine_run.ensures (whole_run k (IsCombination c.args.count k) (combination_of_first c.args.count k))
