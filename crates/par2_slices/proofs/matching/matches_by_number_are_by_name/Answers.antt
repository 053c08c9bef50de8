use Rattle.par2_slices.proofs.Matches.{numbers_are_names}
use Rattle.par2_slices.proofs.matching.matches_by_number_are_by_name.Goals as goal

pub returns : goal.returns
returns c folder s names ts = numbers_are_names folder s names ts
