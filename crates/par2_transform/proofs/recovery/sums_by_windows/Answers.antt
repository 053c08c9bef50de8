use Rattle.par2_transform.proofs.Chirps.{sum_by_windows}
use Rattle.par2_transform.proofs.recovery.sums_by_windows.Goals as goal

pub returns : goal.returns
returns c = λ n e t words cut weights first reaches has fits. sum_by_windows n words first cut reaches e t weights has fits
