-- Names from other crates that the proofs of this one use.

pub use Rattle.par2_inputs.proofs.Common.{append-nil, append_assoc, err_from_is_err_and, get_or-enumerate_from, get_or-map, get_or_default, length-enumerate_from, length-map, map-append, map-range_with_len_more, map_more, take_all, with_items_is, zero-add, ◌≡◌, ℕ, ◌+◌, ◌-◌, ◌<◌, ◌≤◌, List, [], ◌∷◌, ◌++◌, length, take, drop, refl, sym, ap, ◌∙◌, subst, arith, length-append, take-append-drop, CreateArgs, volume_numbers, volume_at, volumes_of, map, range_with_len, ◌*◌, ap₂, flat_map, flat_map-map, packet, packet_of, inl, inr, zero, suc, get_or, enumerate_from, cases_lt, length-map-range_with_len, padded, flat_map-append, map-map, Folder, File, index_packets, main_id, record_of, in_id_order, all_slices, files_of, ◌^◌, rules, ◌/◌, buffers_of, Bor, true, Some, string_bytes, None, Option, is_par_name, Create, bad_name, early_refusal, refusal, Fault, long_name, existing, volume_names, output_names, head_fault, inputs_fault, file_record_of, FileRecord, All, names_of, DuplicateId, input_file, files_fault, ids_fault, duplicate_input, AreRecords, false≢true, md5}
pub use Rattle.std.proofs.Common.{mul-le-mul_right, replicate, Vec, Global, slice_index_or}
pub use Rattle.std.proofs.lemmas.List.{length-replicate, nil_from_length, take_at, drop_at, length-drop, ext_get_or, get_or-take, get_or-drop, drop-drop, drop-take, length-take, drop_more}
pub use Rattle.std.proofs.lemmas.List.Concat.{get_or-flat_map}
pub use Rattle.std.proofs.lemmas.List.Folds.{length-flat_map-take}
pub use Rattle.std.proofs.lemmas.List.FromFn.{get_or-map-range_with_len, length-range_with_len, get_or-range_with_len}
pub use Rattle.std.proofs.lemmas.Result.{on_ok_weaker}
pub use Rattle.std.specs.Vec.{with_items}
pub use Rattle.std.specs.Vec.Iter.{into_iter_items, into_iter_len}
pub use Rattle.par2_create.specs.Outputs.{inputs_of, length_with, places_in, places_of, volume_with, volume_exponents, put_change, blank_volume, with_slices, as_file, volume_file_name, RecordsInputs}
pub use Rattle.par2_inputs.proofs.FileRecords.{files_of_records, ids_accepted, ids_refused}
pub use Rattle.par2_inputs.proofs.IndexBytes.{appended_all, appended_next}
pub use Rattle.par2_inputs.proofs.Refusals.{head_passed, early_by, refused_by, IsHead, AreInputs, inputs_passed, few_slices, few_in_order, inputs_by}
pub use Rattle.par2_inputs.proofs.VolumeNames.{long_without_base, volumes_end}
pub use Rattle.par2_inputs.specs.declared.inputs.Volume.{Volume}
pub use Rattle.par2_inputs.specs.declared.records.Parts.{Parts}
pub use Rattle.par2_packets.proofs.Pieces.{length-pieces, length-undigested, piece_at, drop_behind, head_of, length-head, undigested_is}
pub use Rattle.par2_packets.specs.Recoveries.{ArePieces, undigested, digested}
pub use Rattle.par2_solve.specs.Rebuilding.{output_at, AreWritten, AreZeros}
pub use Rattle.par2_spec.proofs.AcceptedCommands.{create_applies}
pub use Rattle.par2_spec.proofs.Common.{common_steps, length-md5}
pub use Rattle.par2_spec.proofs.EarlyLaws.{refused_early}
pub use Rattle.par2_spec.proofs.FolderLaws.{create_leads}
pub use Rattle.par2_spec.proofs.WrittenSets.{recovery_length}
pub use Rattle.par2_spec.specs.Prelude.{recovery_bytes, recovery_packets, list_at, Change, create_changes, recovery, lists_of, create_args_of, are_applicable, effects}
unfoldable pub use Rattle.par2_spec.specs.Prelude.{volumes, after, changes_of}
pub use Rattle.par2_spec.specs.declared.Kind.TheVariants.{Recovery}
pub use Rattle.par2_transform.specs.Rows.{place_at, AreApart, HasByte, LieWithin}
pub use Rattle.par2_transform.specs.declared.outputs.Place.{Place}
pub use borrow.Rule.Slice.PartMut.{put_mid}

-- the recovery slice of exponent e
abbrev pub slice_of : Parts → ℕ → List ℕ
slice_of parts e = recovery parts.slice (inputs_of parts) e

-- the place of recovery slice k of volume i
abbrev pub place_in : Parts → (i k : ℕ) → Place
place_in parts i k = record { buffer = i; at = length_with parts k + 68 }

-- volume j, or an empty one beyond the end
abbrev pub nth_volume : List Volume → ℕ → Volume
nth_volume volumes j = slice_index_or volumes j (record { name = []; first = 0; count = 0 })
