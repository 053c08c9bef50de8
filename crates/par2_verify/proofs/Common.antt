-- The names that proofs of this crate take from elsewhere.

pub use Rattle.std.proofs.Common.{Bool, Bor, Err, Global, List, Ok, [], ap, append-nil, append_assoc, ap₂, arith, cond, drop, false, get_or, inl, inr, length, map, not, refl, rules, string_bytes, subst, sym, take, tests, true, ℕ, ◌&&◌, ◌++◌, ◌+◌, ◌<◌, ◌==◌, ◌||◌, ◌∙◌, ◌∷◌, ◌≡◌, ◌⊎◌, option_and_then, IfOk, IfSome, None, OnOk, Option, Result, Some, String, filter, filter_map, flat_map, is_none, is_some, option_map, slice_get, zip, find}
pub use Rattle.std.proofs.lemmas.Iterator.{YieldsList-from_map, YieldsList-from_map_by, YieldsList-from_slice, YieldsList-from_zip, items_from_collect}
pub use Rattle.std.proofs.lemmas.Iterator.Adapters.{fact_from_collect, fact_from_extend, position_from-zero}
pub use Rattle.std.proofs.lemmas.Iterator.Consumers.{YieldsList-at, YieldsList-from_filter, YieldsList-from_filter_map, map_from_collect}
pub use Rattle.std.proofs.lemmas.List.{drop_more, length-map, map-append, map_more, take_all, take_more}
pub use Rattle.std.proofs.lemmas.List.Elements.{filter-append, filter_agree, filter_more}
pub use Rattle.std.proofs.lemmas.Option.{slice_get-get_or}
pub use Rattle.std.proofs.lemmas.Result.{IfOk-weaker, err_from_is_err_and}
pub use Rattle.std.specs.BTreeMap.{BTreeMap, get}
pub use Rattle.std.specs.BTreeSet.{BTreeSet, IsFromIterResult, contains}
pub use Rattle.std.proofs.Math.Bool.{and-false, and-true}
pub use Rattle.std.proofs.lemmas.Map.Views.{any-filter_same}
pub use Rattle.par2_spec.proofs.Common.{IsStrictlyIncreasing, and_parts, both_ways, eq-eqb, false_from_ne_true, ne_eqb, not-false, not-true, or_right, or_left, eqb-true, or_parts, list_all-map, list_any-append, map-map, bytes_eq-Decides, slice_cmp, AllByRecursion, IsDistinct, cons_option, enumerate_from, list_all, list_any, position_from, range_with_len, eq_by_cmp, nat_cmp, bytes_eq, Pair, Verify, Folder, bytes_of, has, distinct, is_among, rank, absent_file, names_without_match, IsVerdictIn, Report, is_complete, incomplete_state, verdict_of, candidates, intact_names, is_incomplete, lost, incomplete, incomplete_names, survivors, ParSet, Target, all_pairs, set_of, found, is_eq-slice_cmp}
pub use Rattle.par2_spec.specs.Prelude.{option_map_or, HoldsNames, Complete, TargetReport, lookup}
pub use Rattle.par2_spec.specs.declared.Fault.{Fault}
pub use Rattle.par2_spec.specs.declared.Fault.TheVariants.{Memory, NoSuchFile}
pub use Rattle.par2_verify.specs.Findings.{HoldsMatches, numbers_of_lost, pairs_sought, said_of}
pub use Rattle.par2_verify.specs.ReportViews.{state_view, target_report_of, report_view}
pub use Rattle.par2_sets.specs.SetReading.{count_cmp, HoldsOwned, Returns}
pub use Rattle.par2_slices.specs.Matching.{Describe, NumbersAreNames, first_intact, matched_from, matched_numbers, listed_at, without_number, Window, padded_windows, buffers_of}
pub use Rattle.par2_spec.proofs.AcceptedCommands.{missing, set_in_reads}
pub use Rattle.par2_spec.proofs.SearchLaws.{all-filter, targets_found, present_searched, size_positive, sized_from_counted, sound_of, matches_of_incomplete, all_weaker}
pub use Rattle.par2_spec.proofs.ListsLaws.{all_below_are, found_one, map-cond, AreDistinct, among-filter, among_some, clash, distinct-filter, distinct_from_std, itself, same_either_way, std_from_distinct, answered_so, never_found, refused_by, at_none, err_again, same_name, distinct_some, all-both, all-flat_map}
pub use Rattle.par2_spec.proofs.TreeLaws.{holds_more}
pub use Rattle.par2_spec.proofs.VerdictLaws.{refused_as_reported, verdict_by_words}
pub use Rattle.par2_sets.proofs.Reading.{same_count}
pub use Rattle.par2_spec.proofs.ReportLaws.{by_target}
pub use Rattle.par2_spec.proofs.Places.{position-map}
pub use Rattle.par2_spec.proofs.MovesLaws.{no_names_file}
unfoldable pub use Rattle.par2_spec.proofs.Common.{matches, all_below, early_refusal, set_in, state_of, report_of_target, report_in, report_of, known}
