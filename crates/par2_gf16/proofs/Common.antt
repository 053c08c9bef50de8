-- The names that proofs of this crate take from elsewhere.

pub use Rattle.std.proofs.Common.{Bool, Fits, List, [], add-one, ap, append-nil, ap₂, arith, bit_and, cond, eqb, false, flat_map, get_or, inl, inr, length, length-append, length-set, map, mod-lt, mul_comm, one-mul, pow-suc, pow_pos, refl, replicate, set, subst, suc, sym, true, w16, w8, zero, zero-mul, ℕ, ◌%◌, ◌&&◌, ◌*◌, ◌++◌, ◌+◌, ◌-◌, ◌/◌, ◌<◌, ◌^◌, ◌∙◌, ◌∷◌, ◌≡◌, ◌≢◌, ◌≤◌}
pub use Rattle.std.proofs.lemmas.Bool.{and_parts, cases_eq, cases_lt, eqb-false, eqb-true, ltb-true}
pub use Rattle.std.proofs.lemmas.List.{ext_get_or, get_or-append_right, get_or-map, get_or-set_other, get_or-set_same, get_or_append_left, length-map, map-append, map-id, get_or-take, get_or-drop, get_or_past, length-take-le}
pub use Rattle.std.proofs.lemmas.Nat.{and_mask, shr-shr, xor_block, xor_comm, xor_mod, xor_shr}
pub use Rattle.std.proofs.lemmas.Nat.Bits.{and_pow}
pub use Rattle.std.proofs.lemmas.Simd.{Each1-all, Each1-from_get_or, Each1-get_or, Each1-weaker, Each1-zip2, Each2-splat, SwzOk, SwzOk-from_below, below_from_Fits, chunk-fits, get_or-chunk, get_or-put_chunk_above, get_or-put_chunk_at, get_or-put_chunk_below, get_or-swz_l_below, get_or-zip2, get_or_wider, length-chunk, length-put_chunk, length-swz_l, length-zip2, map-map, pick_l_left, pick_l_whole, splat_is_map, swz_l, zip2-map, zip2_of_maps, zip2_splat}
pub use Rattle.std.specs.Int.Bits.{xor_shifted, xor_zero_l, xor_zero_r}
pub use Rattle.std.specs.List.{filter, range_with_len}
pub use Rattle.std.specs.Prelude.{bit_xor, drop, take}
pub use Rattle.par2_gf16.specs.Tables.{AddsProducts, AddsTo, IsInverse, AreTables, FirstRound, LogsBelow, PowersBelow, SecondRound}
pub use Rattle.par2_gf16.specs.Words.{AddsEach, AddsLanes, IsInterleaving, IsTable, LanesSoFar, lane_of, in_lane, word_in, word_of}
unfoldable pub use Rattle.par2_gf16.specs.Tables.{constants_below}
pub use Rattle.par2_spec.proofs.FieldLaws.{bit_cases, tested, tested_at, xor_shl, double_product, logarithm, one_inverse, power-65535, power-add, power-injective, power-lt, product-zero, zero-product, product-lt, product-one, product_assoc, product_comm, product_linear_right, length-constant_powers}
pub use Rattle.par2_spec.proofs.FieldSteps.{double_high, double_low, one-power, power-mul}
pub use Rattle.par2_spec.proofs.ListsLaws.{by_either, range-append, word_past}
pub use Rattle.par2_spec.specs.Prelude.{is_coprime, word}
unfoldable pub use Rattle.par2_spec.specs.Prelude.{constant, constant_powers, mul, pow}
pub use Rattle.std.proofs.Math.Seq.{get_or-append_seam}
pub use Rattle.std.proofs.lemmas.List.Elements.{filter-append}
pub use Rattle.std.proofs.Math.Arith.{mod-mul}
pub use Rattle.std.proofs.Math.Nat.{mod-eq_of_lt}
pub use Rattle.std.specs.Int.{bit_at}
pub use Rattle.std.proofs.lemmas.List.FromFn.{get_or-map-range_with_len, length-map-range_with_len}
pub use Rattle.std.proofs.Math.Dec.{ltb}
pub use lib.Lanes.{zip2, sel_l, top, Each1, number_l, digits_l, chunk, put_chunk, pick_l}
pub use Rattle.par2_gf16.specs.declared.vectors.WordVector.{WordVector}
