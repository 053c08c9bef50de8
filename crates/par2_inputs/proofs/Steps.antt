-- What `auto` is given, by module.
use Rattle.par2_inputs.proofs.Common.{append-nil, below_more, err_from_is_err_and, false_from_ne_true, false≢true, get_or-map, get_or_default, holds_more, le-ltb, length-map, lt-ltb, not-false, not-true, position-map, refused_by, sum_by_more_le, take_more, with_items_is, IsPermutation-map, take_min, no_file, no_names_file, files_push}
use Rattle.par2_inputs.proofs.FileRecords.{digest_at, in_order, record_push}
use Rattle.par2_inputs.proofs.VolumeNames.{none_long, one_is_long, volumes_below, volumes_more}
use Rattle.par2_inputs.proofs.Refusals.{again_found, again_nowhere}
use Rattle.par2_inputs.proofs.IndexBytes.{index_bytes, appended_all, appended_next, slices_push}

pub ruleset inputs = (lt-ltb, sum_by_more_le, below_more, get_or_default, take_more, not-true, not-false, holds_more, again_found, again_nowhere, position-map)

pub ruleset names = (append-nil, lt-ltb, le-ltb, err_from_is_err_and, refused_by, volumes_below, volumes_more, none_long, one_is_long)

pub ruleset records = (append-nil, take_min, index_bytes, appended_all, appended_next, digest_at, record_push, with_items_is, IsPermutation-map, in_order, false_from_ne_true, false≢true, no_file, no_names_file, get_or-map, length-map, files_push, slices_push)
