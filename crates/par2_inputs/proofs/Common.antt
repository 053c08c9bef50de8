-- Names from other crates that the proofs of this one use.

pub use Rattle.std.proofs.Common.{◌≡◌, ℕ, List, length, map, sym, ap, ◌∙◌, subst, Some, None, ◌==◌, bytes_eq, ◌+◌, ◌<◌, refl, ap₂, [], ◌∷◌, ◌++◌, get_or, take, string_bytes, IsPermutation, ◌*◌, ◌≤◌, append_assoc, zero-add, Bor, drop, flat_map, append-nil, zero, suc, false, arith, length-append, sum_by, ◌%◌, ◌^◌, true, not, ◌&&◌, nat_lt, nat_le, Bool, Option, option_map, is_some, cond, position, unwrap_or, sum, below_more, ◌-◌, codes, nat_eq, ◌||◌, filter, All, ◌/◌, rules, IfSome, filter_map, tests, inr, inl, if◌then◌else◌}
pub use Rattle.std.proofs.lemmas.Bool.{not_from_true, not_from_false, eqb-true, eq-eqb, false_from_ne_true, eqb-false, and_parts, leb-true, ltb-false, not-false, lt-ltb, le-ltb, false≢true, not-true, or_from, or_parts, ne_eqb, le-leb, ltb-true, cases_lt}
pub use Rattle.std.proofs.lemmas.Iterator.{YieldsList-from_slice, YieldsList-from_map_by, items_from_collect}
pub use Rattle.std.proofs.lemmas.Iterator.Consumers.{map_from_collect, YieldsList-at, YieldsList-from_filter_map}
pub use Rattle.std.proofs.lemmas.Iterator.Search.{position_from_yields_List, any_from_yields_List}
pub use Rattle.std.proofs.lemmas.List.{length-map, get_or-map, map_more, map-append, take_all, take_more, flat_map_more, get_or_default, with_items_is, take_min, length-take-le, take-append-drop}
pub use Rattle.std.proofs.lemmas.List.Elements.{filter-append, filter_passes, All-map, All-weaker}
pub use Rattle.std.proofs.lemmas.List.FromFn.{map-range_with_len_more, length-map-range_with_len, get_or-enumerate_from, length-enumerate_from}
pub use Rattle.std.proofs.lemmas.List.Sorted.{length_permutation, sum_by-IsPermutation, IsPermutation-map}
pub use Rattle.std.proofs.lemmas.List.Sums.{sum_by-cons, position_or_len_is, sum-map, sum_by_more_le}
pub use Rattle.std.proofs.lemmas.Result.{err_from_is_err_and, IfOk-weaker}
pub use Rattle.std.specs.Bool.{then_some}
pub use Rattle.par2_inputs.specs.Causes.{duplicate_input, long_name, existing, volume_at, volumes_of, volume_names}
unfoldable pub use Rattle.par2_inputs.specs.Causes.{ids_fault, files_fault, inputs_fault}
pub use Rattle.par2_inputs.specs.Records.{AreRecords, input_file, names_of}
pub use Rattle.par2_inputs.specs.declared.inputs.Input.{Input}
pub use Rattle.par2_inputs.specs.declared.inputs.Volume.{Volume}
pub use Rattle.par2_packets.specs.PacketViews.{file_record_of, record_id_number}
pub use Rattle.par2_packets.specs.declared.record.FileRecord.{FileRecord}
pub use Rattle.par2_slices.specs.Matching.{buffers_of}
pub use Rattle.par2_spec.proofs.AcceptedCommands.{names_of_outputs}
pub use Rattle.par2_spec.proofs.AsideNames.{front_of_name, longer}
pub use Rattle.par2_spec.proofs.Common.{IsDistinct, range_with_len, AllByRecursion, list_any, position_or_len, enumerate_from, starts_with, cons_option, map-map, IsStrictlyIncreasing, md5, w128, from_le_bytes, flat_map-append, div_ceil_times, flat_map-map, list_any-append, is_utf8, is_utf8-from_IsUtf8}
pub use Rattle.par2_spec.proofs.ListsLaws.{AreDistinct, distinct_from_std, std_from_distinct, distinct_same, where_none, all_none, at_none, any-map, refused_by, clash, range-append, map-cond}
pub use Rattle.par2_spec.proofs.MovesLaws.{no_file, no_names_file}
pub use Rattle.par2_spec.proofs.NameTests.{tests_of, name_of, name_is_short}
pub use Rattle.par2_spec.proofs.OrderLaws.{rising_records, files_of_ordered, moved-ordered}
pub use Rattle.par2_spec.proofs.Places.{position-map}
pub use Rattle.par2_spec.proofs.SearchLaws.{distinct_by_length, size_parts}
pub use Rattle.par2_spec.proofs.SliceLaws.{files_push}
pub use Rattle.par2_spec.proofs.TreeLaws.{holds_more}
pub use Rattle.par2_spec.specs.Prelude.{fault_where, distinct, File, id_of, Folder, in_id_order, files_of, padded, slice_at, packet, packet_of, main_id, main_bytes, desc_bytes, ifsc_bytes, creator_bytes, slice_count, slices, all_slices, fault_at, is_name, is_par_name, has, is_slice_size, CreateArgs, are_counts, bad_name, first_fault, bytes_of, volume_numbers, Create, outputs_of, is_among, five_digits, stem, volume_name, volume_size, volumes_before, is_input_name, HoldsNames}
unfoldable pub use Rattle.par2_spec.specs.Prelude.{record_of, index_packets, head_fault, create_refusal, refusal, early_refusal}
pub use Rattle.par2_spec.specs.declared.Fault.{Fault}
pub use Rattle.par2_spec.specs.declared.Fault.TheVariants.{DuplicateId, BadSliceSize, BadCount, BadBase, NoInput, NoSuchFile, EmptyFile, TooManySlices, NameTooLong, BadName, DuplicateInput}
pub use Rattle.par2_spec.specs.declared.Kind.TheVariants.{Main, FileDesc, Ifsc, Creator}

-- volume i, if it has a recovery slice
abbrev pub volume_if : List ℕ → ℕ → ℕ → ℕ → List Volume
volume_if base f c i = if nat_lt (volumes_before i) c then volume_at base f c i ∷ [] else []

-- the names of the outputs, the index first
abbrev pub output_names : CreateArgs → List (List ℕ)
output_names a = a.base ∷ volume_names (volumes_of a.base a.first a.count)
