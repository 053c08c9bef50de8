-- The names that answers take from elsewhere and from the lemmas.

pub use Rattle.par2_gf16.proofs.Words.{in_vector}
pub use Rattle.par2_transform.proofs.Additions.{OutputsAdded, WordsAdded, added_to_output, adds_same, adds_to_group, all_words, are_whole, begins, columns_within, group_of, next_output, next_words, no_words, power_sum_plain, whole_apart, wider_fit, words_added, no_output, all_outputs, still_within, group_within, adds_empty, adds_range, adds_whole, length-group}
pub use Rattle.par2_transform.proofs.BlockLaws.{AddedSoFar, BlocksMade, ClassesAdded, WindowsWeighed, all_classes, block_part, class_added, is_block_at, next_added, next_becomes, next_block, next_class, next_weighed, no_class, none_added, nothing_added, nothing_so_far, one_set, one_window_more, tabulated, values_of_window, none_weighed, weight_rows, windows_weighed}
pub use Rattle.par2_transform.proofs.Chirps.{AreFound, all_found, bit_of, coprimes_below-mono, enough_found, none_found, one_found, power_behind_rounds}
pub use Rattle.par2_transform.proofs.Common.{Adds, AddsAt, AddsToRun, AheadAdded, AreApart, AreCopied, AreListedValues, ArePowerSums, AreTwoRuns, AreValues, Bool, Bor, CopiesVectors, CoverOutputs, EachColumn, Gathers, GivesElements, Global, Grid, HasSize, HaveFirst, IfOk-weaker, IsAdded, IsButterfly, IsCleared, IsRaised, IsMerged, IsSpreadAbove, IsSpreadBelow, IsWeighed, Keeps, List, OneRun, Outputs, Place, Places, RowsGathered, RunAdded, RunAddedBy, Tabulates, Vec, WordVector, YieldsList-from_map, YieldsList-from_range, [], add_assoc, ap, ap₂, arith, bit_at, bit_xor, byte_lists, chirp, chirp_inverse, class_sum_at, coefficients_from, column, coprimes_below, cut_of, div_ceil, div_ceil_times, drop, false, field_sum_same, from, get_or, get_or_default, if◌then◌else◌, in_coset, inl, inr, is_coprime, items_from_collect, length, length-lists_of, length-map, length-replicate, list_at, listed_by, lists_of, map-append, min, mul, numerator, numerator_word, quotient_word, place_at, point, pow, pow_mono, pow_pos, powers_in, quotient_sum, read_at, recovered, refl, rules, set, slice_index, subst, suc, sum_ahead, sym, take, times, true, value, vanishing, with_items, with_items_is, within, word, word_in, word_of, words_at, zero-add, zero-product, ℕ, ◌%◌, ◌*◌, ◌++◌, ◌+◌, ◌-◌, ◌/◌, ◌<◌, ◌^◌, ◌∙◌, ◌∷◌, ◌≡◌, ◌≤◌, mul-le-mul_right, pow-le-pow_right, xor_comm}
pub use Rattle.par2_transform.proofs.GridLaws.{BothHalves, added_same, both_halves, butterfly_added, butterfly_next, butterfly_none, column_fits, combination_of_first, combination_of_one, combined_run, each_of, each_so, each_start, each_then, each_then_two, each_unchanged, evaluated_run, halves_below, listed_of_first, lower_half, next_first, place_is, place_runs, rewritten_none, rewritten_then, row_added, row_column, rows_before, rows_copied, rows_fit, run_added, run_in_field, run_kept, run_next, run_none, summed_run, sums_of_first, unchanged_run, upper_half, value_of_one, whole_run, word_at, zero-mul-add, copied_rewritten, kept_rows, zero_column, zero_vectors, zeros_rewritten}
pub use Rattle.par2_transform.proofs.LocatorLaws.{CosetsAdded, FirstAdded, all_cosets, combinations_of, coset_part, given_is, half_fits, next_coset, next_point, next_row_added, number_in_coset, numbered_by, numerator-lt, numerators_are, one_times, point_outside, point_taken, levels_fit, less_rows, shifted_most, weighed_by}
pub use Rattle.par2_transform.proofs.StepLaws.{above_set, above_start, above_unset, ahead_below, ahead_set, ahead_start, ahead_unset, ahead_whole, below_set, below_start, below_unset, butterfly_at, butterfly_runs, double_power, halved_runs, lower_next, lower_set, merged_runs, one_same, one_written, raised_at, raised_runs, run_at, run_back, run_by_at, run_fits, run_same, run_starts, shifted, shifts, short_runs, split_runs, upper_set}
pub use Rattle.par2_transform.proofs.Subspaces.{first_half, leading_power, point-lt, second_half, vanishing_point, field_sum_bit_set, field_sum_bit_unset, powers_in-lt}
pub use Rattle.par2_transform.specs.Locators.{HoldNumerators}
pub use Rattle.par2_transform.specs.Polynomials.{IsCombination, IsHalved, IsSplit}
pub use Rattle.std.proofs.lemmas.Bool.{false≢true, lt-ltb}
pub use Rattle.std.specs.Prelude.{IfSome}
pub use borrow.Rule.Slice.PartMut.{put_mid}
pub use mir.Val.{bool_byte}
unfoldable pub use Rattle.par2_transform.proofs.Common.{field_sum}
