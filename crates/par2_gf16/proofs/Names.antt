-- The names that answers take from elsewhere and from the lemmas.

pub use Rattle.par2_gf16.proofs.Common.{drop, ◌++◌, ◌*◌, ◌+◌, ap₂, lane_of, ◌-◌, ◌<◌, ◌≡◌, length, bit_xor, ap, ◌∙◌, arith, word_in, refl, replicate, [], ◌∷◌, length-append, get_or, sym, subst, ℕ, mul, product-zero, word, word_past, zero-product, word_of, ◌%◌, ◌/◌, map, w8, Fits, and_mask, Each1-zip2, Each2-splat, Each1-all, zip2_splat, map-map, ◌^◌, length-map, splat_is_map, pick_l_left, range_with_len, w16, Each1-weaker, below_from_Fits}
pub use Rattle.par2_gf16.proofs.Words.{lane_word, block_added, both_added, zeros_read, added_to_zeros, end_added, words_kept, sum_in, padded_word, all_vectors, next_vector, all_added, block_more, product_of_nibbles, in_vector, product_past, four_doublings, byte_table, product_in, masked, small_places, map_all, down, lanes_start, lanes_step, lanes_done, lanes, shifted}
pub use Rattle.std.proofs.Common.{rules}
unfoldable pub use Rattle.par2_gf16.proofs.Common.{pow}
pub use Rattle.std.proofs.lemmas.List.{get_or_default}
pub use Rattle.par2_gf16.proofs.TableLaws.{log_is, first_start, first_pushed, first_kept, second_step, tables_made, constant_is, constants_count, power_is, zero_power, product_is}
pub use lib.Bits.{bit_and, and_le_r}
