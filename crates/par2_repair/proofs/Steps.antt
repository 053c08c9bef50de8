-- What `auto` is given, by the function that needs it.
use Rattle.par2_repair.proofs.Common.{both_ways, bytes_eq-Decides, slice_eq-Decides}

pub ruleset tested = (both_ways, bytes_eq-Decides, slice_eq-Decides)
