-- Names from other crates that the proofs of this one use.

pub use Rattle.std.proofs.Common.{Bool, Global, List, Vec, [], ap, ap₂, arith, bit_xor, cond, drop, eqb, false, get_or, inl, inr, length, length-append, map, min, not, refl, replicate, rules, set, subst, suc, sym, take, true, zero, zero-add, ℕ, ◌%◌, ◌*◌, ◌++◌, ◌+◌, ◌-◌, ◌/◌, ◌<◌, ◌^◌, ◌||◌, ◌∙◌, ◌∷◌, ◌≡◌, ◌≢◌, ◌≤◌}
pub use Rattle.std.proofs.lemmas.Bool.{cases_eq, cases_lt, eq-eqb, false≢true, le-ltb, ne_eqb, not-true}
pub use Rattle.std.proofs.lemmas.List.{ext_get_or, get_or-append_right, get_or-drop, get_or-map, get_or-reverse, get_or-take, get_or_append_left, get_or_default, get_or_past, length-drop, length-map, length-replicate, length-reverse, length-take, length-take-le, length_push, map-append, take_all, take_more, with_items_is}
pub use Rattle.std.proofs.lemmas.List.Elements.{Contains-get_or}
pub use Rattle.std.proofs.lemmas.List.FromFn.{get_or-map-range_with_len, get_or-range_with_len, length-map-range_with_len, length-range_with_len}
pub use Rattle.std.proofs.lemmas.List.Kept.{AllPairs-from_increasing, IsStrictlyIncreasing-filter}
pub use Rattle.std.proofs.lemmas.Nat.{xor_comm}
pub use Rattle.std.proofs.lemmas.Result.{IfOk-weaker, IfErr-weaker}
pub use Rattle.std.specs.Borrow.{Bor}
pub use Rattle.std.specs.Int.Bits.{xor_assoc, xor_zero_l, xor_zero_r, xor_self}
pub use Rattle.std.specs.List.{AllByRecursion, AllZip, Contains, enumerate_from, list_any, range_with_len}
pub use Rattle.std.specs.List.Sorted.{IsStrictlyIncreasing}
pub use Rattle.std.specs.Prelude.{IfErr, None, Ok, Option, Result, Some, filter, is_none, slice_index, reverse}
pub use Rattle.par2_solve.specs.BufferContents.{Adds, AddsSource, AreBlank, AreByteLists, AreExtended, AreProducts, AreSolved, AreSums, byte_lists, chunk, products, syndrome, AreWithin, picked, Inverts, IsInverseOf, IsFillingFor, falling, from_origin, known_window, right_side, AreSolvedBy, InvertsFirst, located_rows}
pub use Rattle.par2_solve.specs.Rebuilding.{AreRebuilt, CanRebuild, IsTrueFault, bytes_or_none, exponents_of, known_alone, known_among, known_of, lost_from, recovered_of, with_exponents, with_lost_slices, AreWritten, AreZeros, output_at, AnotherAlwaysAgrees, IsFaultOf, TwoAlwaysAgree}
pub use Rattle.par2_spec.proofs.FieldLaws.{constant-lt, product-zero, product-lt, dot_sum, field_sum-lt, field_sum_same, product_at, xor_off}
pub use Rattle.par2_spec.proofs.SearchLaws.{all-filter, all_weaker}
pub use Rattle.par2_spec.proofs.ListsLaws.{by_either, all-append, all_at, all_from, all_get, all_unmap, filter-map, combination_words, length-lists_of, read_at, word-lt, written_changed, written_here, by_test, all-both, word_past}
pub use Rattle.par2_spec.proofs.UniqueLaws.{length-quotient, with_roots_elements, agreeing_are_one, coefficients_are, dot-lt, words_are, with_roots_monic}
pub use Rattle.par2_spec.specs.Prelude.{mul, times, Agrees, IsRepairable, kept_slices, coefficients, combination, AreSlices, lost, padded, word, GivesElements, list_at, lists_of, OneChanged, TwoListsAgree, AreElements}
unfoldable pub use Rattle.par2_spec.specs.Prelude.{coefficient, constant, pow, quotient, with_roots, dot, recovery, field_sum}
pub use Rattle.par2_gf16.proofs.Words.{zeros_read, word_drop, words_kept}
pub use Rattle.par2_transform.proofs.Additions.{adds_more, adds_same, still_within, within-in, within_joined, within_same, adds_to_group, length-group, adds_columns, within-below, first_word, AreWhole, are_whole}
pub use Rattle.par2_transform.specs.Rows.{AddsAt, AddsToEach, AreApart, LieWithin, place_at, within, AreWholeBuffers, HaveWords}
pub use Rattle.par2_transform.specs.Chirps.{recovered, words_at}
pub use borrow.Rule.Slice.PartMut.{put_mid}
pub use Rattle.par2_gf16.specs.Tables.{AddsTo}
pub use Rattle.par2_gf16.specs.Words.{AddsEach, word_of}
pub use Rattle.par2_gf16.specs.declared.vectors.WordVector.{WordVector}
pub use Rattle.par2_transform.specs.declared.outputs.Place.{Place}
pub use Rattle.std.specs.Option.{ForSome}
pub use Rattle.std.proofs.lemmas.Option.{none-some, same_Some}
pub use Rattle.par2_spec.proofs.FilesLaws.{bytes-zeros}
pub use Rattle.par2_solve.specs.declared.rebuild_slices.RebuildFault.{RebuildFault}
pub use Rattle.par2_solve.specs.declared.rebuild_slices.RebuildFault.TheVariants.{NotRepairable, Memory}
pub use Rattle.par2_solve.specs.declared.inverse.Inverse.{Inverse}
pub use Rattle.par2_solve.specs.declared.inverse.Inverse.TheVariants.{Rows, Located, Filled}
pub use Rattle.par2_transform.specs.Locators.{quotient_coefficient, numerator, quotient_sum}
pub use Rattle.par2_solve.specs.declared.holes.Filling.{Filling}
pub use Rattle.par2_matrix.proofs.Combinations.{are_inverse, combined, dot_at, each_more, gives_back, sum_of_row}
pub use Rattle.par2_matrix.proofs.RunInverses.{constant_at, constants-lt, is_inverse, located_wide, quotient_at, range_has, rises_between, rises_differ, slices_of, value_is_sum}
pub use Rattle.par2_matrix.proofs.Windows.{Recurs, alike, below, exponent_no_hole, filter_all, given, hole_place, holes_determine, holes_rise, is_run, kept_first, locator_long, more_determine, none_given, others, range_all, recurrence, reversed, same_values, shifted_sum, shifted_vector, window_dot, window_parted}
pub use Rattle.par2_matrix.specs.LostSlices.{AreFactors, AreHoleInverse, IsInverseMatrix, IsOriginAt, holes, identity, is_hole, locator, shifted, shifted_at, span}
pub use Rattle.par2_matrix.specs.declared.holes.Origin.{Origin}
pub use Rattle.par2_matrix.specs.declared.holes.Origin.TheVariants.{Exponent, Hole}
