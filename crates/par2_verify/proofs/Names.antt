-- The names that answers take from elsewhere and from the lemmas.

pub use Rattle.par2_verify.proofs.Common.{◌≡◌, ◌∙◌, Bor, List, [], ◌∷◌, ℕ, refl, map, ap, ap₂, sym, subst, rules, zip, slice_get, bytes_of, IfOk, IfOk-weaker, Option, Pair, Target, Describe, buffers_of, incomplete, intact_names, matched_numbers, option_and_then, YieldsList-at, YieldsList-from_map, YieldsList-from_map_by, YieldsList-from_slice, YieldsList-from_zip, items_from_collect, map_from_collect, tests, is_none, names_without_match, YieldsList-from_filter, fact_from_collect, IsFromIterResult, slice_cmp, nat_cmp, arith, option_map, map-map, bytes_eq, IsDistinct, itself, same_either_way, is_eq-slice_cmp, find, same_name, ◌+◌, ◌++◌, true, false, not, cond, take, take_all, map_more, not-true, not-false, is_among, distinct, HoldsNames, holds_more, ◌⊎◌, Bool, inl, inr, Err, Result, Fault, Memory, ParSet, set_of, set_in, err_from_is_err_and, err_again, answered_so, string_bytes, Global, filter, filter_map, is_some, IfSome, String, Some, Folder, has, YieldsList-from_filter_map, None, Ok, ◌==◌, list_all, eq-eqb, ne_eqb, list_all-map, is_complete, report_in, verdict_of, IsVerdictIn, verdict_by_words, target_report_of, state_view, flat_map, list_any, eq_by_cmp, rank, pairs_sought, said_of, candidates, matches, contains, filter_agree, found, HoldsMatches, count_cmp, refused_as_reported, padded_windows, refused_by, std_from_distinct, lookup, IsStrictlyIncreasing, Returns, report_view}
pub use Rattle.par2_verify.proofs.VerifyParts.{matches_by_numbers, free_by, distinct_more, all_there, unread, all_present, is_early, not_early, distinct_once, holds}
pub use Rattle.par2_verify.proofs.ReportValues.{heads, answered, refused_in, is_sought, once, lost_one, lost_among}
pub use Rattle.std.proofs.lemmas.Map.Made.{update_all_none}
pub use Rattle.std.specs.Cmp.{IsEquivalence}
pub use Rattle.par2_verify.specs.declared.reading.Reading.{Reading}
pub use Rattle.par2_spec.specs.declared.Verdict.{Verdict}
