-- The names that answers take from elsewhere and from the lemmas.

pub use Rattle.par2_inputs.proofs.Common.{◌∙◌, List, Input, AreRecords, input_file, md5, arith, length, length-map, map, subst, ap, record_of, take_all, take_all, take_all, take_all, sym, ◌≡◌, take, padded, all_slices, files_of, buffers_of, names_of, None, long_name, volume_names, rules, ℕ, Bor, YieldsList-from_slice, YieldsList-from_map_by, map_from_collect, bytes_of, [], ◌∷◌, Bool, true, false, not, refl, cond, string_bytes, Some, is_some, IfSome, filter_map, IfOk-weaker, cons_option, AllByRecursion, at_none, is_input_name, BadName, items_from_collect, Option, YieldsList-at, YieldsList-from_filter_map, ◌+◌, ◌==◌, ◌&&◌, has, position, tests, NoSuchFile, EmptyFile, TooManySlices, position_from_yields_List, ◌||◌, list_any, Volume, any_from_yields_List, ◌++◌, inr, get_or, below_more, option_map, get_or_default, take_more, not-true, not-false, is_among, holds_more, DuplicateInput, HoldsNames, ◌<◌, inl, cases_lt, false≢true, is_utf8, is_name, volume_at, is_utf8-from_IsUtf8}
pub use Rattle.par2_inputs.proofs.IndexBytes.{index_bytes, appended_all, appended_next}
pub use Rattle.par2_inputs.proofs.VolumeNames.{volumes_below, any_named, volume_is_name}
pub use Rattle.par2_inputs.proofs.FileRecords.{digest_at, record_push}
pub use Rattle.par2_inputs.proofs.Refusals.{files_by, too_many_by, again_found, comes_again}
