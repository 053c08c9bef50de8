-- The names that answers take from elsewhere and from the lemmas.

pub use Rattle.par2_md5_lanes.proofs.Common.{◌≤◌, ◌*◌, ◌∙◌, ap, arith, length, length-append, length-drop, refl, take, take-take, at_hand, bytes_left, message_of, ◌≡◌, ◌+◌, min, ◌≢◌, ◌<◌, cases_eq, get_or-set_other, inl, inr, length-set, buffer_at, set, get_or, get_or-set_same, get_or-take, get_or_default, length-take-le, subst, sym, IsBegun, LaneTask, ◌++◌, ◌∷◌, [], ℕ, List, append-nil, cases_lt, get_or_append_left, get_or_push, length_push, HasAbsorbed, Pending, TakeAll, digest_at, Progresses, ◌/◌, ◌%◌, drop, digest_bytes, get_or-replicate, padded_message, padding, length-replicate, tail_len, tail_of, slice_index, rules, lane, w32, add32, step_constants, step_shifts, ◌-◌, block_words, ◌^◌, Each1-get_or, below_from_Fits, shifts_fit_splat, ap₂, f_fn, g_fn, h_fn, i_fn, lane_words, drop_all, part_bytes}
pub use Rattle.par2_md5_lanes.proofs.BlockLaws.{blocks_more, at_the_end, kept_rest, buffers_more, progress_more, begun_takes, finished, less_work, progress_twice, some_work, goes_on, rest_goes_on, message_goes_on, all_blocks, last_blocks, whole_blocks, after_words, hash_one_more, words_of_quarters, hash_more, same_rest, size_behind, filled_more, rest_more, within_more}
pub use borrow.Rule.Slice.PartMut.{post_of}
unfoldable pub use Rattle.par2_md5_lanes.proofs.Common.{hash_behind, md5, hash_after}
pub use Rattle.par2_md5_lanes.proofs.LaneLaws.{bytes_set_other, bytes_set_same, bytes_here, no_bytes, bytes_of_high, bytes_of_low, have_fewer, have_high, have_low, lanes, terms_of_g, without_rest_of_i, word_of_lane, after_step, first, second, third, fourth}
pub use Rattle.std.specs.Int.{rotate_left}
