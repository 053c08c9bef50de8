-- The names that answers take from elsewhere and from the lemmas.

pub use Rattle.par2_slices.proofs.Common.{◌≡◌, ◌∙◌, length, length-take, ap, arith, slice_count, ℕ, ◌+◌, ◌++◌, List, drop, sym, subst, Bor, range_with_len, append-nil, at_drop_all, length-map, matched_from, buffers_of, ◌-◌, refl, ◌<◌, Bool, [], get_or, get_or-map, is_intact, first_intact, listed_at, IsFirst, rules, Pair, pair_at, ◌/◌, ◌%◌, bit_at, get_or-set_same, w32, bit_at_set_same, ◌^◌, IsNonDecreasingBy, PairPlace, no_place, take, HoldsGroup, Includes, eq-eqb, ap₂, ◌*◌, set, bit_or, Groups, bit_and, bit_not, w8, ◌∷◌, map, map-range_with_len_more, IsNonDecreasingBy-from_sort_by_key, suc, bit_xor, crc_step, steps, digest_at, replicate, Holds, md5, fold, take_all, crc_byte, Roll, after_slide, false, true, ◌==◌, Option, Some, eqb-true, and_parts, is_none, bytes_eq, answer_at, is_awaited, pair_place_at, has_checksums, IsPlace, Position, none_from, map_more, first_position, ◌≤◌, IfSome, option_map, map-append, All-push, found, no_pair, AreShort, IsWithin, Window, padded_window, padded_windows, window_in, All, no_candidate, Candidate, after_window, candidate_at, after_candidates, IsWindow, IsTally, false_from_ne_true, count_by, HaveAnswers, get_or-drop, IsScannedTo, padded, mul-le-mul_right, Row, row_at, crc_of, AreCandidateRows, inr, IsOfOpenPair, AreAlike, option_or, first_match, position_in}
pub use Rattle.par2_slices.proofs.Comparisons.{compared_is, intact_by_md5s, not_intact_by_crcs, not_intact_by_first}
pub use Rattle.std.proofs.lemmas.Grind.{common_steps}
pub use Rattle.par2_slices.proofs.Matches.{AreBelow, below_length, described_all, left_below, match_pushed, first_here, first_later, one_pair_more, digest_is, whole_window}
pub use Rattle.std.proofs.lemmas.Iterator.{items_from_collect, YieldsList-from_range, YieldsList-from_slice, cases_from_any}
pub use Rattle.std.proofs.Common.{None, Ok, ltb, length-drop, tests}
pub use Rattle.std.specs.Option.{ForSome}
pub use Rattle.std.proofs.lemmas.Fn.{filter_same}
pub use Rattle.par2_slices.proofs.Searching.{kept_by_clear, kept_by_set, within, one_of_four, included, kept_by_insert, only_by_insert, with_bit, gone, kept_by_remove, only_by_remove, without_bit, writes, Settled, not_settled, one_settled, has_is, no_md5, not_awaited, all_done, at_start, bytes_of, bytes_done, emptied, matches, none_settled, settled_from, IsFilled, filled_more, none_answered, all_answered, unawaited, no_more, unmarked, none_left, compared, pushed, after-row, at-start, passed-to-end, passed-to-row, reached, next_row, noted, skipped, answered, included_alike, not_closed, tally_settled, waiting_pair}
pub use Rattle.std.proofs.lemmas.Bool.{ltb-false, ltb-true, MatchBool-at_false, MatchBool-at_true}
pub use Rattle.std.proofs.lemmas.List.Sorted.{IsNonDecreasingBy-from_default, IsPartitionPoint-from_clause, IsPartitionedBy-ltb}
pub use Rattle.par2_slices.proofs.Places.{ends_of, group_of, place_of, index_of}
pub use Rattle.par2_slices.proofs.Checksums.{first_product, more_product, more_zeros, last_zeros, fold_more, grouped, fold_group, slid, one_slide, sixteen_bytes, first_power, even_power, odd_power, one_byte, slid_window}
pub use Rattle.par2_slices.proofs.FoundWindows.{position_of_pair, position_found, position_within}
pub use Rattle.par2_slices.specs.declared.search.Search.{Search}
pub use Rattle.std.proofs.lemmas.List.{drop_min, take_rest}
pub use Rattle.std.proofs.lemmas.Result.{IfOk-weaker}
