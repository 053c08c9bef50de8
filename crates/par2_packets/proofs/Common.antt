-- The names that proofs of this crate take from elsewhere.

pub use Rattle.std.proofs.Common.{Bool, List, Some, [], ap, append-nil, append_assoc, ap₂, arith, drop, eqb, false, get_or, inl, inr, leb, length, length-append, map, min, mul-le-mul_right, refl, replicate, rules, slice_get, slice_index, subst, suc, sym, take, true, zero, ℕ, ◌%◌, ◌*◌, ◌++◌, ◌+◌, ◌-◌, ◌/◌, ◌<◌, ◌==◌, ◌∙◌, ◌∷◌, ◌≡◌, ◌≢◌, ◌≤◌}
pub use Rattle.std.proofs.lemmas.Bool.{and_parts, cases_lt, cond_above, cond_below, false_from_ne_true, leb-true}
pub use Rattle.std.proofs.lemmas.Grind.{common_steps}
pub use Rattle.std.proofs.lemmas.List.{drop-append-le, drop-drop, drop-take, ext_get_or, flat_map_more, get_or-map, get_or_default, length-drop, length-map, length-replicate, length-take-le, take-append-le, take-take, take_all, take_at}
pub use Rattle.std.proofs.lemmas.List.FromFn.{get_or-map-range_with_len, length-map-range_with_len}
pub use Rattle.std.proofs.lemmas.List.Sorted.{IsNonDecreasingBy-from_sort_by_key, IsPermutation-map, IsPermutation-sym, all_adjacent_more}
pub use Rattle.std.proofs.lemmas.Result.{IfOk-weaker, on_ok_weaker}
pub use Rattle.std.proofs.lemmas.Slice.Eq.{bytes_eq-Decides}
pub use Rattle.std.specs.Int.{from_le_bytes, to_le_bytes, w128, w32, w64}
pub use Rattle.std.specs.List.{AllAdjacentBelow, AllPairs, IsDistinct, range_with_len, suffix_len}
pub use Rattle.std.specs.Prelude.{Err, Ok, OnOk, Result, flat_map, if◌then◌else◌, is_ok}
pub use Rattle.std.specs.Str.{bytes_eq}
pub use Rattle.md5.specs.Md5.{Holds, md5}
pub use Rattle.par2_packets.specs.PacketViews.{rest_of, file_record_of, record_id_number, packet_view, main_said, ifsc_said}
pub use Rattle.par2_packets.specs.Recoveries.{ArePieces, changed_below, overwritten, AreDigested, digest_put, digested, recovery_packet}
unfoldable pub use Rattle.par2_packets.specs.Recoveries.{undigested}
pub use Rattle.par2_spec.proofs.ListsLaws.{increasing, range-append, same_either_way}
pub use Rattle.par2_spec.specs.Prelude.{Pair, DescBody, IfscBody, MainBody, Packet, accepted, bytes_at, claimed_length, digest_input, items_at, magic, type_of, without_end_zeros, packet_of}
unfoldable pub use Rattle.par2_spec.specs.Prelude.{accepted_after, begins_with_packet, first_packet, packet, u32_at}
pub use Rattle.std.proofs.Math.Seq.{drop-length}
pub use Rattle.std.proofs.lemmas.Option.{slice_get-get_or, slice_get-map}
pub use Rattle.std.specs.Option.{option_map}
pub use Rattle.std.specs.List.Sorted.{IsNonDecreasingBy, IsStrictlyIncreasing, IsPermutation}
pub use Rattle.std.proofs.lemmas.List.Kept.{AllPairs-from_increasing}
pub use Rattle.std.proofs.lemmas.Map.Keys.{IsDistinct-IsPermutation}
pub use Rattle.std.proofs.lemmas.Map.Made.{AllPairs-from_IsDistinct, IsDistinct-from_AllPairs}
pub use Rattle.memchr.specs.Find.{OccursAt, NoneBefore, Nowhere}
pub use Rattle.memchr.proofs.lemmas.MatchLemmas.{OccursAt-from_part}
pub use Rattle.par2_spec.proofs.WrittenSets.{accepted-none, in_front}
pub use Rattle.par2_spec.specs.declared.Kind.{Kind}
pub use Rattle.par2_spec.specs.declared.Kind.TheVariants.{Recovery}
pub use Rattle.md5.proofs.StandardFacts.{length-md5}
