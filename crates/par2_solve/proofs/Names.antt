-- The names that answers take from elsewhere and from the lemmas.

pub use Rattle.par2_solve.proofs.Combinations.{length-byte_lists, next_source, next_target, no_source, nothing_added, part_added, rows_long, vector_word, all_coefficients}
pub use Rattle.par2_solve.proofs.Common.{Adds, AddsToEach, AreBlank, AreByteLists, AreProducts, AreSums, Bor, Global, IfErr, IfOk-weaker, IsInverseMatrix, IsRepairable, IsStrictlyIncreasing, IsTrueFault, List, Ok, Vec, [], adds_same, all-filter, all_get, ap, ap₂, arith, by_either, byte_lists, bytes_or_none, cases_eq, cases_lt, chunk, coefficients, constant, drop, eq-eqb, eqb, exponents_of, filter, filter-map, get_or, get_or-map, get_or_default, inl, inr, kept_slices, known_among, length, length-drop, length-lists_of, length-map, length-replicate, length-reverse, length-take, length-take-le, length_push, list_any, list_at, lists_of, lost, lost_from, map, map-append, mul, ne_eqb, products, quotient, range_with_len, read_at, recovered, recovered_of, refl, rules, set, slice_index, still_within, subst, suc, sym, syndrome, take, take_all, take_more, times, with_exponents, with_items_is, word, written_changed, written_here, zero, ℕ, ◌%◌, ◌*◌, ◌++◌, ◌+◌, ◌-◌, ◌/◌, ◌<◌, ◌||◌, ◌∙◌, ◌∷◌, ◌≡◌, ◌≤◌, AddsSource, AreHoleInverse, AreSolvedBy, AreWhole, AreWholeBuffers, Filled, Filling, HaveWords, Inverts, InvertsFirst, IsStrictlyIncreasing-filter, OneChanged, Place, are_inverse, are_whole, constant_at, each_more, falling, from_origin, holes, holes_determine, is_inverse, is_run, kept_first, located_rows, located_wide, locator, locator_long, more_determine, numerator, picked, quotient_coefficient, quotient_sum, range_has, reverse, right_side, slices_of, span, word_of, word_past, words_at}
pub use Rattle.par2_solve.proofs.Inverting.{adds_group, all_columns_added, are_written, many_windows, more_solved, next_columns, next_sum, none_solved, picked_sizes, products_are, rows_solve, span_added, sums_are, sums_of_blank, window_size, words_solved, sum_word, FirstAdded, ColumnsAdded, coefficient_products, located_inverse, quotient_rows}
pub use Rattle.par2_solve.proofs.Rebuilding.{another, answer, length-lost_from, lost-lt, lost_are, same_count, square, two, lost_rise}
pub use Rattle.par2_solve.proofs.Windows.{falling_long, filled_solve}
pub use Rattle.par2_matrix.proofs.Ranks.{is_kept, kept_exponents}
pub use Rattle.par2_spec.proofs.FullRank.{run_determines}
pub use Rattle.std.proofs.lemmas.Iterator.{YieldsList-from_take, YieldsList-from_map, YieldsList-from_map_by, YieldsList-from_range, YieldsList-from_slice, items_from_collect}
pub use Rattle.std.proofs.lemmas.Iterator.Adapters.{YieldsList-from_rev_slice}
pub use Rattle.std.proofs.lemmas.Iterator.Consumers.{YieldsList-at, YieldsList-from_filter, map_from_collect}
pub use Rattle.std.proofs.lemmas.Simd.{map-map}
pub use Rattle.std.specs.Vec.{with_items}
