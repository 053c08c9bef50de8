-- Names from other crates that the proofs of this one use.

pub use Rattle.std.proofs.Common.{Bool, Decides, List, [], ap, ap₂, arith, below_more, cond, drop, false, fold, get_or, get_or-set_other, get_or-set_same, inl, inr, length, length-set, map, min, not, refl, replicate, rules, set, subst, suc, sym, take, true, zero, zero-add, ℕ, ◌%◌, ◌&&◌, ◌*◌, ◌++◌, ◌+◌, ◌-◌, ◌/◌, ◌<◌, ◌^◌, ◌||◌, ◌∙◌, ◌∷◌, ◌≡◌, ◌≢◌, ◌≤◌}
pub use Rattle.std.proofs.Math.Nat.{div-mul-le_self, lt_of_not-le, mul-le-mul_right, mul_assoc, ne_of_lt, pow-suc, suc-ne-zero}
pub use Rattle.std.proofs.lemmas.Bool.{and_from, and_left, and_parts, and_right, cases_eq, cases_lt, eq-eqb, eqb-true, false_from_ne_true, false≢true, ne_eqb, not-false}
pub use Rattle.std.proofs.lemmas.Bool.Decides.{same_from_decides}
pub use Rattle.std.proofs.lemmas.Grind.{div_ceil_times, flat_map-append}
pub use Rattle.std.proofs.lemmas.List.{append-nil, append_assoc, at_drop_all, drop_more, ext_get_or, get_or-append_right, get_or-drop, get_or-map, get_or-replicate, get_or-take, get_or_append_left, get_or_at, get_or_default, get_or_past, get_or_push, get_or_read, length-drop, length-map, length-replicate, length-take, length-take-le, length_push, map-append, map_more, nil_from_length, replicate-append-replicate, take-append-drop, take-replicate, take_all, take_more}
pub use Rattle.std.proofs.lemmas.List.Elements.{All-drop, All-filter, All-from_get_or, All-get_or, All-push, All-tail, All-take}
pub use Rattle.std.proofs.lemmas.List.Folds.{concat-append, find-append, list_all_at, sum_by-replicate, sum_by-zero}
pub use Rattle.std.proofs.lemmas.List.FromFn.{get_or-map-range_with_len, get_or-range_with_len, length-map-range_with_len, length-range_with_len, map-range_with_len_more}
pub use Rattle.std.proofs.lemmas.List.Sorted.{All-permutation, Contains-permutation, IsNonDecreasingBy-from_sort_by_key}
pub use Rattle.std.proofs.lemmas.List.Sums.{get_or-le-sum_by, count_by-le-length, sum_by-set, list_all-from_AllPass}
pub use Rattle.std.proofs.lemmas.Nat.{mod-pow-add, mod_below, pow-add, pow_pos, shl_below, shr-shr, shr_below, xor_comm}
pub use Rattle.std.proofs.lemmas.Slice.Eq.{bytes_eq-Decides}
pub use Rattle.std.specs.Borrow.{Bor}
pub use Rattle.std.specs.Int.{bit_at, bit_not, from_le_bytes, to_le_bytes, w32, w8, Width}
pub use Rattle.std.specs.Int.Bits.{xor_assoc, xor_zero_r}
pub use Rattle.std.specs.List.{All, IsDistinct, concat, count_by, list_all, range_with_len}
pub use Rattle.std.specs.List.Sorted.{IsNonDecreasingBy, IsPermutation}
pub use Rattle.std.specs.Option.{is_none, option_or}
pub use Rattle.std.specs.Prelude.{IfSome, None, Option, Some, bit_and, bit_or, bit_xor, filter, find, flat_map, option_map, option_to_list, slice_index, zip, ◌==◌, ◌⊎◌}
pub use Rattle.std.specs.Str.{bytes_eq}
pub use Rattle.md5.specs.Md5.{Holds, md5}
pub use Rattle.par2_md5_lanes.specs.Messages.{digest_at}
pub use Rattle.par2_slices.specs.Checksums.{AreAlike, Groups, IsLong, HasBit, Includes, Summarizes, AreStarts, HoldsGroup, IsIndex, IsStart, answer_at, is_awaited, pair_at, pair_place_at, AreMd5s, first_pairs, IsLeaving, Roll}
pub use Rattle.par2_slices.specs.Matching.{AreCrcs, AreCandidateRows, row_at, AreAnswered, IsScannedTo, IsWhole, IsWindow, answer_below, crc_of, earlier_answer, window_of, HaveAnswers, IsTally, after_window, candidate_at, first_position, first_position_from, has_checksums, position_in, HaveCrc32s, HaveMd5s, Describe, Describes, IsFirst, NumbersAreNames, first_intact, matched_from, matched_numbers, listed_at, without_number, AreShort, IsWithin, Window, padded_window, padded_windows, buffers_of, window_in}
unfoldable pub use Rattle.par2_slices.specs.Checksums.{after_slide, leaving, steps}
unfoldable pub use Rattle.par2_slices.specs.Matching.{after_candidates, first_below}
pub use Rattle.par2_slices.specs.declared.search.Candidate.{Candidate}
pub use Rattle.par2_slices.specs.declared.search.Position.{Position}
pub use Rattle.par2_slices.specs.declared.search.Row.{Row}
pub use Rattle.par2_slices.specs.declared.search.Scan.{Scan}
pub use Rattle.par2_slices.specs.declared.wanted.PairPlace.{PairPlace}
pub use Rattle.par2_spec.proofs.ChecksumLaws.{crc32-slide, crc_byte-steps, crc_steps-add, crc_steps-shifted, crc_steps-split, crc_steps-swap, crc_steps-xor, fold-append, fold-zeros, joined}
pub use Rattle.par2_spec.proofs.ListsLaws.{map-cond, range-append, none_from, or_nothing}
pub use Rattle.par2_spec.specs.Prelude.{Pair, crc_byte, crc_step, crc_steps, pair_of, is_intact, matched, padded, slice_at, slice_count, first_match, found, is_match, window, windows, Target, Folder, bytes_of, is_among}
unfoldable pub use Rattle.par2_spec.specs.Prelude.{crc32}
pub use Rattle.std.specs.Simd.{first_chunks}
pub use Rattle.std.proofs.Math.Seq.{take-add}
pub use Rattle.par2_slices.specs.declared.checksum.TheConstants.{TABLES}
pub use Rattle.par2_spec.proofs.FilesLaws.{length-window}
pub use Rattle.std.proofs.Math.Bool.{or-false}
pub use Rattle.std.proofs.lemmas.Map.Keys.{apart_from_distinct}
pub use Rattle.std.proofs.lemmas.Nat.Bits.{bit_at_or, bit_at_set_same, bit_at_set_other, bit_at_clear_same, bit_at_clear_other}
pub use mir.Val.{bits}

-- what reads past the end of lists give
abbrev pub no_pair : Pair
no_pair = ([], 0)

abbrev pub no_place : PairPlace
no_place = record { crc = 0; index = 0 }

abbrev pub no_candidate : Candidate
no_candidate = record { position = record { buffer = 0; offset = 0 }; crc = 0 }

abbrev pub no_row : Row
no_row = record { at = 0; crcs = [] }

-- some row of the list is `at` bytes into the stretches
abbrev pub IsNoted : List Row → ℕ → Type 0
IsNoted rows at = (j : ℕ) × (j < length rows) × ((row_at rows j).at ≡ at)

-- the checksum is of the group of an open pair
abbrev pub IsOfOpenPair : ℕ → List Pair → List (Option Position) → ℕ → Type 0
IsOfOpenPair shift pairs found crc = (i : ℕ) × (i < length pairs) × (answer_at found i ≡ None) × AreAlike shift (pair_at pairs i).1 crc

-- the index of a pair, with the checksum of that pair
abbrev pub IsPlace : List Pair → PairPlace → Type 0
IsPlace pairs place = (place.index < length pairs) × ((pair_at pairs place.index).1 ≡ place.crc)
