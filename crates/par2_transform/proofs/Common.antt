-- The names that proofs of this crate take from elsewhere.

pub use Rattle.std.proofs.Common.{Bool, Global, List, Vec, [], add-mul, add-zero, add_assoc, add_comm, ap, ap₂, arith, bit_xor, cond, drop, eqb, false, get_or, inl, inr, length, length-append, ltb, map, min, mul-add, mul-zero, mul_assoc, mul_comm, one-mul, pow-suc, pow_pos, refl, replicate, rules, set, subst, suc, sym, take, true, zero, zero-add, zero-mul, ℕ, ◌%◌, ◌*◌, ◌++◌, ◌+◌, ◌-◌, ◌/◌, ◌<◌, ◌^◌, ◌∙◌, ◌∷◌, ◌≡◌, ◌≢◌, ◌≤◌, ◌⊎◌}
pub use Rattle.std.proofs.Math.Arith.{lt_of_le-ne}
pub use Rattle.std.proofs.Math.Nat.{div-div-eq-div-mul, div-le_self, div-mul-le_self, mod-lt, mul-le-mul_right, pow-le-pow_right}
pub use Rattle.std.proofs.Math.Pow.{pow-lt, pow_mono}
pub use Rattle.std.proofs.lemmas.Bool.{cases_Bool, cases_eq, cases_lt, eqb-true, le-leb, le-ltb, lt-ltb, ltb-true, lt-leb}
pub use Rattle.std.proofs.lemmas.Grind.{div_ceil_times}
pub use Rattle.std.proofs.lemmas.Iterator.{YieldsList-from_map, YieldsList-from_range, items_from_collect}
pub use Rattle.std.proofs.lemmas.List.FromFn.{get_or-map-range_with_len, length-map-range_with_len}
pub use Rattle.std.specs.List.{range_with_len}
pub use Rattle.std.proofs.lemmas.List.{get_or-append_right, get_or-drop, get_or-set_other, get_or-set_same, get_or-take, get_or_append_left, get_or_at, get_or_default, get_or_past, length-drop, length-map, length-replicate, length-set, length-take-le, map-append, with_items_is, length-take, get_or-map}
pub use Rattle.std.proofs.lemmas.Nat.{div-add-mod', div-mul-add, mul-add-lt, pow-add, xor_comm, xor_lt}
pub use Rattle.std.proofs.lemmas.Result.{IfOk-weaker}
pub use Rattle.std.specs.Borrow.{Bor}
pub use Rattle.std.specs.Int.{bit_at, div_ceil, IsPowerOfTwo}
pub use Rattle.std.specs.Int.Bits.{xor_assoc, xor_self, xor_shifted, xor_zero_l, xor_zero_r}
pub use Rattle.std.specs.Prelude.{filter, if◌then◌else◌, nat_le, nat_lt, not, slice_index, ◌&&◌, ◌==◌, max}
pub use Rattle.std.specs.Vec.{with_items}
pub use Rattle.par2_spec.proofs.FieldLaws.{IsLinear, bit_cases, bit_times_xor, bit_xor_times, bits_ind, linear-zero, tested, tested_at, xor_middle, no_zero_divisor, power-65535, power-add, power-lt, product-zero, zero-product, product-lt, product-one, product_assoc, product_comm, product_linear_left, product_linear_right, field_sum-lt, field_sum_head, field_sum_none, field_sum_one, field_sum_same, field_sum_scaled, field_sum_xor, xor_off, length-constant_powers}
pub use Rattle.par2_spec.proofs.FieldSteps.{one-power, power-mul, power_inverse}
pub use Rattle.par2_spec.proofs.SearchLaws.{slice_begins}
pub use Rattle.par2_spec.proofs.ListsLaws.{length-lists_of, read_at, word-lt, written_changed, written_here}
pub use Rattle.par2_spec.specs.Prelude.{is_coprime, word, GivesElements, OneChanged, list_at, lists_of}
unfoldable pub use Rattle.par2_spec.specs.Prelude.{coefficient, constant, constant_powers, mul, pow, field_sum}
pub use Rattle.par2_gf16.specs.Tables.{AddsTo}
pub use Rattle.par2_gf16.specs.Words.{word_in, word_of}
pub use Rattle.par2_gf16.specs.declared.vectors.WordVector.{WordVector}
pub use Rattle.par2_transform.specs.Rows.{times, AddsAt, AddsToEach, AreApart, AreWholeBuffers, HasByte, HaveWords, LieWithin, output_word, place_at, within, AreCopied, AreRewritten, AreRows, AreTwoRuns, CopiesVectors, EachColumn, Grid, HasSize, IsAdded, IsPair, IsRun, column, AddsToRun, AheadAdded, IsButterfly, IsRaised, IsSpreadAbove, IsSpreadBelow, OneRun, RunAddedBy, SameValuesOutside}
pub use Rattle.par2_transform.specs.Outputs.{AreWeightRows, BlocksBecome, CoverOutputs, EachBlock, Gathers, HasShape, IsBlock, IsCleared, IsGathered, Keeps, Outputs, RowsGathered, Takes, outputs_at, class_sum_at, weight_at, AreReady, HaveShape, cut_of, part_from, Adds, AddsIn, AddsSlices, Fit, LieIn, numerator_word, quotient_word}
pub use Rattle.par2_transform.specs.Chirps.{AreWordsOfFirst, AreWeights, Tabulates, Cut, HasWeights, Reaches, from_gathered, coefficient_of, coefficients_from, gathered, window_value, AreByteLists, AreNumbers, recovered, byte_lists, words_at}
unfoldable pub use Rattle.par2_transform.specs.Chirps.{chirp, chirp_inverse, coprimes_below, triangle, word_at_power}
pub use Rattle.par2_transform.specs.Polynomials.{AreListedValues, IsListed, listed_by, AreZeroFrom, AreValues, from, value, ArePowerSums, IsMerged, sum_ahead, IsSplit, IsHalved, IsCombination}
pub use Rattle.par2_transform.specs.Locators.{AreNumbered, AreNumerators, HaveFirst, IsWeighed, in_coset, numerator, quotient_coefficient, quotient_sum, HoldNumerators}
unfoldable pub use Rattle.par2_transform.specs.Polynomials.{power_sum, basis, bit_numbers, point, point_number, powers_in, vanishing, combined}
pub use Rattle.par2_transform.specs.declared.outputs.Columns.{Columns}
pub use Rattle.par2_transform.specs.declared.outputs.Place.{Place}
pub use Rattle.par2_transform.specs.declared.outputs.Places.{Places}
pub use Rattle.par2_transform.specs.declared.exponents.Plan.{Plan}
pub use borrow.Rule.Slice.PartMut.{put_mid, same_len_mid}
pub use Rattle.par2_gf16.proofs.Words.{word_xor, in_vector}
pub use Rattle.std.proofs.lemmas.Nat.Bits.{bit_at-suc, bit_at_above, bit_at_xor, bit_at_lowest}

-- the number of point u in coset q of subspace i
abbrev pub member : ℕ → ℕ → ℕ → ℕ
member i q u = q * 2 ^ i + u

-- to the n values from `to` on, the values from `at` on are added
abbrev pub RunAdded : ℕ → ℕ → ℕ → (ℕ → ℕ) → (ℕ → ℕ) → Type 0
RunAdded = RunAddedBy (λ x. x)

-- the value at x of the products of coefficients and x ^ (2 ^ j) that reach x ^ (2 ^ i) or higher
abbrev pub spread_beyond : ℕ → (ℕ → ℕ) → ℕ → ℕ → ℕ
spread_beyond i coefficients x j = field_sum (2 ^ j) (λ d. mul (coefficients (2 ^ i - 2 ^ j + d)) (pow x (2 ^ i + d)))

-- and of those that stay below
abbrev pub spread_within : ℕ → (ℕ → ℕ) → ℕ → ℕ → ℕ
spread_within i coefficients x j = field_sum (2 ^ i - 2 ^ j) (λ d. mul (coefficients d) (pow x (2 ^ j + d)))

-- the blocks, of `size` outputs each, are those of the outputs from exponent `first` on
abbrev pub AreBlocks : Cut → ℕ → ℕ → ℕ → List Outputs → Type 0
AreBlocks cut columns first size blocks = (j : ℕ) → j < length blocks → IsBlock cut columns (first + j * size) (outputs_at blocks j)
