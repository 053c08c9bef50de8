use Rattle.par2_transform.proofs.Names.{subst, ArePowerSums, EachColumn, each_so, sums_of_first, whole_run}
use Rattle.par2_transform.proofs.fourier.power_sums.Goals as goal

pub returns : goal.returns
returns c =
    let k = c.levels.result in
    subst (λ n. EachColumn (ArePowerSums n 0) c.args.rows.now c.sum_run.new.rows) c.levels.ensures.value (each_so c.sum_run.ensures (whole_run k (ArePowerSums k 0) (sums_of_first k 0)))
