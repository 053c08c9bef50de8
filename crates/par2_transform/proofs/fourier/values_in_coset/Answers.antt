use Rattle.par2_transform.proofs.Names.{AreListedValues, listed_by, each_so, listed_of_first, whole_run}
use Rattle.par2_transform.proofs.fourier.values_in_coset.Goals as goal

pub returns : goal.returns
returns c =
    let k = c.args.levels in
    let next = listed_by c.args.next in
    each_so c.evaluate_run.ensures (whole_run k (AreListedValues next k c.args.coset) (listed_of_first next k c.args.coset))
