-- The names that answers take from elsewhere and from the lemmas.

pub use Rattle.par2_repair.proofs.Common.{◌≡◌, ◌∙◌, Bor, List, [], ◌∷◌, ℕ, refl, map, ap, ap₂, sym, subst, rules, bytes_of, IfOk, IfOk-weaker, Option, Pair, Target, buffers_of, YieldsList-at, YieldsList-from_map, YieldsList-from_slice, YieldsList-from_zip, tests, names_without_match, fact_from_collect, IsFromIterResult, slice_cmp, nat_cmp, arith, bytes_eq, IsDistinct, ◌+◌, ◌++◌, true, false, not, cond, take, take_all, map_more, is_among, ◌⊎◌, inl, inr, Err, Fault, Memory, ParSet, set_in, err_from_is_err_and, string_bytes, filter, filter_map, Some, YieldsList-from_filter_map, None, Ok, ◌==◌, flat_map, list_any, all_pairs, candidates, matches, contains, found, length, fault_where, is_incomplete, NotComplete, IsTrue, IfErr, Change, Remove, effects, are_applicable, Purge, changes_of, refusal, after, ok_no_err, refused_by, err_passed, long_aside, names_there, append_assoc, aside, put_aside, place_in, now_at, AllByRecursion, std_from_distinct, Repair, rebuilt_targets, undetermined_fault, drop, lists_of, with_lost_slices, ◌<◌, get_or, concat, map-append, padded, ◌%◌, IsStrictlyIncreasing, length-map, Window, padded_window, recovered_of, exponents_of, drop_all, drop_more, append-nil, length-append, take-map, drop-map, is_at, nil_from_length, all-filter, rebuilt, distinct_once, holds}
pub use Rattle.par2_repair.proofs.RepairParts.{any_incomplete, purge_as_verify, purge_unread, purge_refused, purge_by_set, purge_leads, asides_are, changes_are, removals_are, put_aside_in, determined, whole_if_matched, repair_as_verify, repair_refused, repair_unread, not_repairable, too_long, by_digests, none_rebuilt, targets_are}
pub use Rattle.par2_repair.proofs.Restoring.{as_pair, holds_asides, found_ones, take-again, concat_push, short_present, walked, target_more, all_slices, all_lengths, all_counted, no_names, no_fault}
pub use Rattle.std.proofs.lemmas.Iterator.Search.{any_from_yields_List}
pub use Rattle.par2_repair.proofs.Drafts.{is_draft}
pub use Rattle.std.specs.Slice.Iter.{iter_rest}
unfoldable pub use Rattle.par2_repair.proofs.Common.{known}
pub use Rattle.par2_spec.proofs.FilesLaws.{size_even}
