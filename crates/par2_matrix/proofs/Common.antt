-- The names that proofs of this crate take from elsewhere.

pub use Rattle.std.proofs.Common.{Bool, Global, List, Vec, [], ap, ap₂, arith, bit_xor, cond, eqb, false, get_or, inl, inr, length, map, refl, rules, set, subst, suc, sym, true, zero, ℕ, ◌%◌, ◌*◌, ◌++◌, ◌+◌, ◌/◌, ◌<◌, ◌↔◌, ◌∙◌, ◌∷◌, ◌≡◌, ◌≢◌, ◌≤◌, ◌⊎◌, IsTrue, T, append-nil, append_assoc, drop, eqb→eq, ltb, not, take, zero-add, ◌&&◌, ◌-◌, ◌^◌, ◌||◌}
pub use Rattle.std.proofs.Math.Bool.{and-true, or-true}
pub use Rattle.std.proofs.Math.Dec.{T_not, not_T}
pub use Rattle.std.proofs.Math.Facts.{Fits-lt-pow, and_yes, yes_and}
pub use Rattle.std.proofs.Math.Nat.{suc-ne-zero}
pub use Rattle.std.proofs.lemmas.Bool.{cases_eq, cases_lt, cond-false, cond-true, eq-eqb, false≢true, ne_eqb, eqb-false, eqb-true, false_from_ne_true, le-ltb, lt-ltb, ltb-true, not-false, not-true}
pub use Rattle.std.proofs.lemmas.Bool.Decides.{Decides-eqb}
pub use Rattle.std.proofs.lemmas.Cmp.{nat_eq_equiv}
pub use Rattle.std.proofs.lemmas.Grind.{common_steps}
pub use Rattle.std.proofs.lemmas.List.{ext_get_or, get_or-map, get_or_append_left, get_or_past, get_or_push, length-append, map-append, with_items_is, drop_all, drop_more, get_or-drop, get_or-replicate, get_or-set_other, get_or-set_same, get_or-take, get_or_at, get_or_default, length-drop, length-map, length-set, length-take-le, length_push, map-id, take-take, take_all, take_more}
pub use Rattle.std.proofs.lemmas.List.Elements.{Contains-get_or, filter-append, filter_more, recursion_from_All}
pub use Rattle.std.proofs.lemmas.List.FromFn.{get_or-map-range_with_len, length-map-range_with_len, get_or-range_with_len, length-range_with_len, map-range_with_len_more}
pub use Rattle.std.proofs.lemmas.List.Kept.{AllPairs-from_increasing, IsStrictlyIncreasing-filter}
pub use Rattle.std.proofs.lemmas.List.Sums.{count_by-le-length, length-filter}
pub use Rattle.std.proofs.lemmas.Map.Made.{IsDistinct-from_AllPairs}
pub use Rattle.std.proofs.lemmas.Map.Views.{Contains-from_any, any-filter_same, list_any-from_Contains}
pub use Rattle.std.proofs.lemmas.Nat.{xor_lt, xor_comm}
pub use Rattle.std.specs.Int.Bits.{xor_self, xor_zero_r, xor_assoc, xor_zero_l}
pub use Rattle.std.specs.List.{AllByRecursion, range_with_len, All, Contains, list_all, list_any}
pub use Rattle.std.specs.List.Sorted.{IsStrictlyIncreasing}
pub use Rattle.std.specs.Prelude.{Err, Ok, Result, filter, nat_eq}
pub use Rattle.std.specs.Result.{IsOk, MatchResult, is_ok}
pub use Rattle.std.specs.Vec.{with_items}
pub use Rattle.std.specs.declared.alloc.AllocError.{AllocError}
pub use Rattle.par2_gf16.specs.Tables.{AddsProducts, IsInverse}
pub use Rattle.par2_matrix.specs.Echelon.{AllEmpty, Echelon, IsPrepared, IsReduced, Meets, PutAt, ReducedBelow, Scaled, HoldsRow, Vanishes, echelon_of, system_of}
unfoldable pub use Rattle.par2_matrix.specs.Echelon.{count_present, equations}
pub use Rattle.par2_matrix.specs.LostSlices.{AreByteRows, AreFactors, AreHoleEquations, AreHoleInverse, AreOrigins, IsEliminated, IsInverseMatrix, IsOriginAt, IsUnit, OnlyZeroFits, holes, identity, is_hole, locator, shifted, shifted_at, span}
pub use Rattle.par2_matrix.specs.Systems.{AreSolutionBuffers, CutDown, Equations, IsDependent, IsIndependent, IsKilled, IsTheSolution, IsUndetermined, OnlyZeroIsKilled, Solves, no_equations, rank}
pub use Rattle.par2_matrix.specs.declared.exponents.Lost.{Lost}
pub use Rattle.par2_matrix.specs.declared.system.Offer.{Offer}
pub use Rattle.par2_matrix.specs.declared.system.Offer.TheVariants.{Dependent, Kept}
pub use Rattle.par2_spec.proofs.ExistLaws.{IsSolved, solved}
pub use Rattle.par2_spec.proofs.FieldLaws.{cancel, product-zero, zero-product, product-lt, product-one, product_comm, dot_sum, field_sum_one, field_sum_same, field_sum_two, product_at, row_sum-lt, row_sum_added, row_sum_empty, row_sum_scaled, row_sum_unit, xor_off, xor_same, xor_middle, constant-injective, constant-lt, constant-nonzero, field_sum_head, field_sum_none, field_sum_scaled, field_sum_xor, length-constant_powers, no_zero_divisor, power-lt, product_assoc, product_linear_left, product_linear_right, range_rises}
pub use Rattle.par2_spec.proofs.FullRank.{close_kept, full-iff, rank-le, run_determines, run_rank}
pub use Rattle.par2_spec.proofs.ListsLaws.{all_at, all_from, by_either, bytes_at, combination_words, length-lists_of, read_at, same_buffers, word-lt, word_empty, word_past, written_changed, written_here, all-append, all-drop, all-each, all-map, all-parts, all-passing, all-take, all_get, all_unmap, by_true, filter-map, is_true, of_contained, some_list}
pub use Rattle.par2_spec.proofs.SearchLaws.{all_weaker}
pub use Rattle.par2_spec.proofs.UniqueLaws.{coefficients_are, dot-lt, length-quotient, length-with_roots, quotient_elements, quotient_itself, quotient_others, times_elements, value-lt, value_times, with_roots_elements, with_roots_zero, words_are}
pub use Rattle.par2_spec.specs.Prelude.{mul, IsVector, combination, word, words, GivesElements, OneChanged, list_at, lists_of, row_sum, AreClose, AreElements, ArePoints, AreSlices, HasRun, IsRepairable, Kills, coefficients, constant_powers, kept, kept_slices, kills, smaller, times, times_root}
unfoldable pub use Rattle.par2_spec.specs.Prelude.{coefficient, constant, dot, field_sum, is_independent, plus, pow, quotient, value, with_roots}

-- a reduced system from its parts
abbrev pub echelon : (columns bytes rank : ℕ) → List (List ℕ) → List (List ℕ) → Echelon
echelon columns bytes rank rows right_sides = record { columns = columns; bytes = bytes; rank = rank; rows = rows; right_sides = right_sides }
