-- The names that answers take from elsewhere and from the lemmas.

pub use Rattle.par2_packets.proofs.Common.{length, sym, ap, ◌∙◌, IfscBody, rules, ◌<◌, ◌+◌, ◌*◌, ℕ, List, Some, arith, Pair, u32_at, MainBody, ◌≡◌, ◌≤◌, ◌-◌, [], map, refl, get_or, get_or_default, range_with_len, length-map-range_with_len, get_or-map-range_with_len, md5, bytes_at, ◌++◌, common_steps, replicate, magic, undigested, min, subst, AreDigested, w128, from_le_bytes, IsNonDecreasingBy-from_sort_by_key, record_id_number, increasing, true, false, rest_of, packet_view, take, drop-drop, take_all, flat_map, ap₂, w32, to_le_bytes, length-map, file_record_of, w64}
pub use Rattle.par2_packets.proofs.Finding.{pairs_count, pair_fits, pair_of_view, ids_count, id_fits, id_of_view, distinct_keys, moved_distinct, same_ids, rises_more, not_distinct, begun, body_length, found, not_here, passed_to, magic_within, nothing}
pub use Rattle.std.proofs.Common.{◌^◌, length-drop}
pub use Rattle.par2_md5_lanes.specs.Messages.{buffers_of}
pub use Rattle.std.specs.Prelude.{drop}
pub use Rattle.std.proofs.Math.Nat.{le_trans, mul-le-mul_right}
pub use Rattle.std.proofs.lemmas.Iterator.{serves_from_Range, YieldsList-from_map_by, YieldsList-from_range, items_from_drains}
pub use Rattle.std.proofs.lemmas.Simd.{map-map}
pub use Rattle.par2_packets.proofs.Pieces.{digested_next, piece_more, undigested_in_parts, all_digested, digested_further, appended, packet_in_parts}
pub use Rattle.par2_packets.specs.declared.record.FileRecord.{FileRecord}
pub use Rattle.par2_spec.specs.Prelude.{pair_bytes}
