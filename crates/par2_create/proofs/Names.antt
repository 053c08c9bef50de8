-- The names that answers take from elsewhere and from the lemmas.

pub use Rattle.par2_create.proofs.Common.{◌≡◌, ◌<◌, ◌∙◌, [], List, ℕ, Vec, Global, length, get_or, sym, ap, ap₂, arith, zero-add, length-map, length-replicate, get_or-map, get_or_default, enumerate_from, length-enumerate_from, get_or-enumerate_from, blank_volume, places_in, Volume, ◌^◌, ◌+◌, ◌*◌, rules, ◌++◌, ◌∷◌, map, append_assoc, range_with_len, map-range_with_len_more, Place, place_in, File, with_items_is, map-append, map_more, as_file, lists_of, volume_file_name, with_slices, drop, with_items, ◌/◌, subst, on_ok_weaker, padded, AreWritten, buffers_of, Bor, flat_map, undigested, slice_of, inr, refl, true, Some, string_bytes, None, Option, is_par_name, err_from_is_err_and, Folder, Create, CreateArgs, bad_name, early_refusal, refusal, create_args_of, Fault, long_name, existing, volumes_of, volume_names, output_names, are_applicable, effects, create_applies, create_changes, map-map, Change, put_change, recovery_packets, files_of, head_fault, inputs_fault, ◌≤◌, packet, index_packets, main_id, record_of, in_id_order, all_slices, file_record_of, FileRecord, RecordsInputs, refused_early, create_leads, All, length-md5, names_of, refused_by, DuplicateId, input_file, files_fault, ids_fault, duplicate_input, AreRecords, false≢true, md5, appended_all, appended_next, long_without_base, volumes_end, files_of_records, ids_accepted, ids_refused, IsHead, AreInputs, head_passed, inputs_passed, few_slices, few_in_order, early_by, inputs_by}
unfoldable pub use Rattle.par2_create.proofs.Common.{after, changes_of}
pub use Rattle.par2_create.proofs.VolumeLaws.{length-volume, packet_ends, some_left, taken, length-places, places_apart, places_blank, places_within, volumes_written, behind_index, index_kept, length-packets, packets_digested, written, create_written}
