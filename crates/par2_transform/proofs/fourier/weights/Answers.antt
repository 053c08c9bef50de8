use Rattle.par2_transform.proofs.Names.{◌∙◌, sym, slice_index, ArePowerSums, power_sum_plain, sums_of_first, whole_run}
use Rattle.par2_transform.proofs.fourier.weights.Goals as goal

pub returns-clause-are : goal.returns-clause-are
returns-clause-are c sequence b same e low =
    let k = c.args.levels in
    let new = slice_index c.weigh_run.new.words in
    sym (same e low) ∙ whole_run k (ArePowerSums k 0) (sums_of_first k 0) new (slice_index c.args.words.now) c.weigh_run.ensures.weights e low ∙ power_sum_plain new k e
