-- What `auto` is given, by the function that needs it.
use Rattle.par2_verify.proofs.Common.{both_ways, err_again, err_from_is_err_and, false_from_ne_true, position-map, no_names_file}
use Rattle.par2_verify.proofs.VerifyParts.{base_first, extra_first, none_absent}

pub ruleset base_name = (err_from_is_err_and, err_again, position-map, base_first, extra_first, none_absent)

pub ruleset present = (false_from_ne_true, both_ways, no_names_file)
