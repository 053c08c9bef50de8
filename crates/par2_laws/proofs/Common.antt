-- Names that the proofs of this crate import.

pub use Rattle.par2_spec.proofs.Common.{Bool, List, [], ap, append-nil, append_assoc, arith, cond, drop, false, inl, inr, length, length-append, map, not, refl, subst, suc, sym, take, true, zero, ℕ, ◌%◌, ◌&&◌, ◌*◌, ◌++◌, ◌+◌, ◌/◌, ◌<◌, ◌^◌, ◌∙◌, ◌∷◌, ◌≡◌, ◌≤◌, ◌⊎◌, and_from, and_parts, both_ways, eq-eqb, eqb-false, eqb-true, false≢true, le-leb, leb-true, not-false, not-true, or_from, or_parts, common_steps, div_ceil_times, flat_map-append, length-map, All-contains_itself, Contains-append_right, filter_passes, recursion_from_All, sum_by-cons, none-some, same_Some, map-map, slice_cmp, AllByRecursion, Contains, enumerate_from, list_all, list_any, range_with_len, nat_cmp, Err, IfOk, IsPermutation, OnOk, Result, filter, filter_map, find, flat_map, fold, if◌then◌else◌, is_some, nat_le, nat_lt, ok_or, option_and_then, option_map, sum_by, ◌==◌, bytes_eq, length-md5, md5, IsPair, Pair, crc_byte, crc_step, crc_steps, pair_of, Action, Command, Create, CreateArgs, Do, Repair, files_of, outputs_of, fault_at, fault_where, first_fault, File, Folder, IsFolder, bytes_of, files, has, distinct, is_among, is_par_name, DescBody, IfscBody, MainBody, Packet, RecoveryBody, accepted, AreBytes, IsRepairable, is_repairable, rank, are_counts, NoCollision, candidates, lost, survivors, MadeFrom, ParSet, Target, all_some, are_in_profile, description_of, is_slice_size, main_of, other_par_names, packets_with, pairs_of, recovery_of, target_names, target_of, target_of_file, unless, ◌>>=◌, slice_at, slice_count, slices, FileRecord, IsFileRecord, all_slices, creator_bytes, desc_bytes, ifsc_bytes, main_bytes, main_id, packet_of, recovery_bytes, recovery_packets, volume_name, volume_numbers, volume_size, volumes_before, windows, after_repair_and_purge, IfErr, is_valid, LeadsToAfterRequested, Session, claimed_length, AreSurvivors, IsSound, window, is_match, found, ◌-◌, T, cases_Bool, entries_sorted, eq_by_cmp, is_lt, is_eq, ForSome, below_all, nat_cmp_total, xor_lt, take-append_seam, drop-append_seam, list_any-append, length-range_with_len, IsDistinct-IsPermutation, HoldsRepaired}
unfoldable pub use Rattle.par2_spec.proofs.Common.{IsDistinct, crc32, laid_over, is_name, packet, accepted_after, read_desc, read_ifsc, read_main, read_recovery, set_in, after, create_refusal, refusal, repair_refusal, rebuilt_targets, known, read_set, set_of, in_id_order, index_packets, record_of, volumes, after_repair, session_after, changes_requested, history_of, begins_with_packet, first_packet, recovery}
pub use Rattle.par2_spec.proofs.Basics.{by_test, all-filter, all-append, all-flat_map, all-flat_map-map, all-map, all-parts, all-passing, all_unmap, contained_first, contained_later, found_one, of_contained, distinct_from_std, itself, same_either_way, same_name, std_from_distinct, all_weaker, repairable-iff, test_from_all, size_parts, size_positive, by_either, some_if, present_searched, sound_of, all-each, all-take, all-drop, all-both, T-parts, fits_of}
pub use Rattle.std.proofs.Common.{None, Ok, Option, Some, min, unwrap_or}
pub use Rattle.std.proofs.lemmas.Bool.{ltb-false}
pub use Rattle.std.proofs.lemmas.List.Elements.{Contains-append_left}
pub use Rattle.std.proofs.lemmas.List.Sorted.{IsPermutation-map, IsPermutation-sym, length_permutation, sum_by-IsPermutation}
pub use Rattle.std.specs.FinMap.{get-entries, is_sorted}
pub use Rattle.std.specs.List.{slice_index_or}
pub use Rattle.std.specs.Prelude.{IsTrue, bit_xor, slice_get}
pub use Rattle.par2_spec.specs.Prelude.{FitsCreate, FollowsCreate, IsDamage, may_refuse, written_names, HaveAChoice, IsTrueTo, HoldsBytes, AreAllOf, AreDescribed, IsOf, is_read, AreInputs, HoldsVolumes, IsOfOthers, IsVolume, IsVolumeOrOther, set_id_of, History, after_undo, folders, in_front, unless_refused, is_input_name, id_of, Matches, HasFiles, OthersAgree, RefusedRepairLeavesTwoLists}
pub use Rattle.par2_spec.proofs.FilesLaws.{at_name, names_of_files, made_size, purged_files, repaired_files, right_digests, size_even, length-window, bytes-window, bytes-slice_at}
pub use Rattle.par2_spec.proofs.ListsLaws.{all-filter_map, found_at_key, distinct_same, all_none, at_none, where_none}
pub use Rattle.par2_spec.proofs.OrderLaws.{moved-all, moved-ordered}
pub use Rattle.par2_spec.proofs.SearchLaws.{all-entries, distinct_by_length, finished, mapped, no_slices, read_by, set_with, target_with}
pub use Rattle.par2_spec.proofs.WrittenSets.{desc_reads, ifsc_reads, index_reads, main_reads, recovery_slices_read, none_short}
unfoldable pub use Rattle.par2_spec.specs.Prelude.{history_after, packets_of}
pub use Rattle.par2_spec.specs.declared.Fault.TheVariants.{BadBase, BadCount, BadName, BadSet, BadSliceSize, DuplicateId, DuplicateInput, EmptyFile, Exists, Memory, NameTooLong, NoChecksums, NoDescription, NoInput, NoMain, NoPackets, NoSuchFile, NotRepairable, RepairFailed, TooManySlices}
pub use Rattle.par2_spec.specs.declared.Kind.TheVariants.{Creator, FileDesc, Ifsc, Main, Other, Recovery}
pub use Rattle.par2_spec.specs.declared.Fault.{Fault}
pub use Rattle.par2_spec.specs.declared.Kind.{Kind}
pub use Rattle.par2_spec.proofs.MovesLaws.{get_put}
pub use Rattle.std.proofs.Math.Nat.{zero-mul}
pub use Rattle.std.specs.Cmp.{tied_itself}
pub use Rattle.par2_spec.proofs.AcceptedCommands.{missing, in_full, in_part, set_in_reads}
pub use Rattle.par2_spec.proofs.RefusedLaws.{another_choice, first_cause, size_two}
pub use Rattle.par2_spec.proofs.RepairLaws.{Fits, targets_fit}
pub use Rattle.par2_spec.proofs.ExistLaws.{two_agree}
pub use Rattle.par2_spec.proofs.NameTests.{tests_of}
