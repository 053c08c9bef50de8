-- The names that proofs of this crate take from elsewhere.

pub use Rattle.std.proofs.Common.{Bor, List, None, Option, Some, [], add-one, ap, append-nil, append_assoc, ap₂, arith, below_more, drop, false, get_or, get_or-set_other, get_or-set_same, inl, inr, length, length-append, length-drop, length-set, map, min, nat_lt, refl, replicate, rules, slice_index, subst, suc, sym, take, true, zero, ℕ, ◌%◌, ◌*◌, ◌++◌, ◌+◌, ◌-◌, ◌/◌, ◌<◌, ◌^◌, ◌∙◌, ◌∷◌, ◌≡◌, ◌≢◌, ◌≤◌}
pub use Rattle.std.proofs.Math.ListN.{set}
pub use Rattle.std.proofs.lemmas.Bool.{cases_eq, cases_lt}
pub use Rattle.std.proofs.lemmas.Grind.{and-not_self, common_steps}
pub use Rattle.std.proofs.lemmas.List.{drop-append-le, drop-drop, drop-map, drop-take, drop_all, drop_at, get_or-append_right, get_or-drop, get_or-map, get_or-take, get_or_append_left, get_or_default, get_or_push, length-map, length-replicate, length-take-le, length_push, map-append, map_more, take-append-drop, take-append-le, take-map, take-replicate, take-take, take_all}
pub use Rattle.std.proofs.lemmas.Nat.{and_assoc, and_comm, from_le_bytes-to_le_bytes_4, or_disjoint, and_le_r, or_lt, xor_lt}
pub use Rattle.std.proofs.lemmas.Simd.{Each1-get_or, below_from_Fits, get_or-replicate, get_or-zip2, length-zip2, shifts_fit_splat}
pub use Rattle.std.specs.Int.{bit_not, to_le_bytes, w32, w64}
pub use Rattle.std.specs.Option.{is_some}
pub use Rattle.std.specs.Prelude.{bit_and, bit_or, bit_xor, slice_index_or}
pub use Rattle.md5.specs.Md5.{add32, add_state, f_fn, g_fn, h_fn, i_fn, padded_message, padding, round, step_constants, step_fn, step_shifts, word_at, word_place}
unfoldable pub use Rattle.md5.specs.Md5.{block_words, compress, digest_bytes, hash_after, md5, rounds}
pub use Rattle.par2_md5_lanes.specs.Messages.{at_hand, bytes_left, HasAbsorbed, message_of, part_bytes, IsBegun, TakeAll, bytes_to_absorb, tail_len, tail_of, HasBlocks, HasEnded, HasTaken, AllProgress, EndsIn, EndsInWith, Progresses, work, work_of, buffer_at, buffers_of, digest_at, Have, HaveLanes, four_words_at, lane, lane_words}
unfoldable pub use Rattle.par2_md5_lanes.specs.Messages.{hash_behind}
pub use Rattle.par2_md5_lanes.specs.declared.midstate.Midstate.{Midstate}
pub use Rattle.par2_md5_lanes.specs.declared.tasks.Pending.{Pending}
pub use Rattle.par2_md5_lanes.specs.declared.tasks.LaneTask.{LaneTask}
pub use Rattle.std.proofs.Math.Seq.{take-add}
pub use Rattle.std.specs.Int.Bits.{and_zero_r}
pub use Rattle.std.proofs.lemmas.Bool.Decides.{nat_tests}
pub use Rattle.std.proofs.lemmas.Nat.Bits.{bit_at-lt, bit_at_and, bit_at_not, bit_at_or, bit_at_xor, same_from_bits_below}
pub use lib.Lanes.{zip2}
