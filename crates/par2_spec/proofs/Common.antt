-- Names that the proofs of this crate import.

pub use Rattle.std.proofs.Common.{Bool, Global, IsTrue, Less, List, T, Vec, [], add-zero, ap, append-nil, append_assoc, ap₂, arith, cond, div-lt_iff_lt-mul, drop, eqb, false, get_or, inl, inr, leb, length, length-append, length-drop, length-set, ltb, map, mod-lt, mul_comm, not, one-mul, pow-add, pow-suc, pow_pos, refl, set, subst, suc, suc-add, sym, take, true, zero, zero-add, zero-mul, ℕ, ◌%◌, ◌&&◌, ◌*◌, ◌++◌, ◌+◌, ◌-◌, ◌/◌, ◌<◌, ◌^◌, ◌||◌, ◌∙◌, ◌∷◌, ◌≡◌, ◌≢◌, ◌≤◌, ◌⊎◌}
pub use Rattle.std.proofs.Math.Bool.{and-false, not-not}
pub use Rattle.std.proofs.Math.Nat.{add-mul, div-add-mod, mul-le-mul_right, mul_assoc, one-le-pow, pow-le-pow_right, zero-div, zero-mod}
pub use Rattle.std.proofs.Math.Seq.{drop-append_seam, drop-cons, drop-nil, take-append-add, take-append_seam}
pub use Rattle.std.proofs.lemmas.Bool.{and_from, and_parts, and_right, both_ways, cases_Bool, cases_eq, cases_lt, cond-true, eq-eqb, eqb-false, eqb-true, false_from_ne_true, false≢true, le-leb, leb-false, leb-true, lt-leb, lt-ltb, ltb-true, ne_eqb, not-false, not-true, not_from_false, or_cases, or_from, or_left, or_parts, or_right, true_from_ne_false}
pub use Rattle.std.proofs.lemmas.Bool.Decides.{Decides-eqb, nat_tests, same_from_decides}
pub use Rattle.std.proofs.lemmas.Cmp.{nat_eq_equiv, nat_list_eq_equiv}
pub use Rattle.std.proofs.lemmas.Grind.{common_steps, div_ceil_times, flat_map-append, reverse_onto}
pub use Rattle.std.proofs.lemmas.Iterator.Adapters.{position_from-zero}
pub use Rattle.std.proofs.lemmas.List.{drop-drop, drop_all, drop_at, ext_get_or, get_or-map, get_or-reverse, get_or-set_other, get_or-set_same, get_or-take, get_or_past, length-map, length-replicate, length-reverse, length-take, length-take-le, length_push, map-append, map-id, map-set, nil_from_length, replicate_more, reverse-append, reverse-reverse, take-append-drop, take-append-le, take-map, take-take, take_all, take_at, take_more}
pub use Rattle.std.proofs.lemmas.List.Elements.{All-contains, All-contains_itself, All-filter, All-from_get_or, All-from_recursion, All-get_or, Contains-append_right, Contains-get_or, filter_passes, recursion_from_All}
pub use Rattle.std.proofs.lemmas.List.Folds.{flat_map-map, list_all-append, list_all-map, list_any-append, prefix_len-append, prefix_len-replicate}
pub use Rattle.std.proofs.lemmas.List.FromFn.{get_or-range_with_len, length-map-range_with_len, length-range_with_len}
pub use Rattle.std.proofs.lemmas.List.Kept.{AllPairs-from_increasing, IsStrictlyIncreasing-filter}
pub use Rattle.std.proofs.lemmas.List.Sums.{length-filter, sum_by-cons}
pub use Rattle.std.proofs.lemmas.Map.Keys.{IsDistinct-IsPermutation, IsStrictlyIncreasing-from_sorted}
pub use Rattle.std.proofs.lemmas.Map.Made.{IsDistinct-from_AllPairs, length-le_from_is_member}
pub use Rattle.std.proofs.lemmas.Map.Text.{is_eq-slice_cmp}
pub use Rattle.std.proofs.lemmas.Nat.{from_le_bytes-to_le_bytes_2, from_le_bytes-to_le_bytes_4, from_le_bytes-to_le_bytes_8, mod_below, pow_below, shr_split, xor_block, xor_comm, xor_lt, xor_shr}
pub use Rattle.std.proofs.lemmas.Nat.Bits.{bit_at_lowest, bit_at_xor}
pub use Rattle.std.proofs.lemmas.Option.{none-some, same_Some}
pub use Rattle.std.proofs.lemmas.Simd.{map-map}
pub use Rattle.std.proofs.lemmas.Slice.Eq.{bytes_eq-Decides}
pub use Rattle.std.proofs.lemmas.Slice.Zip.{AllZip-long}
pub use Rattle.std.proofs.lemmas.Str.{IsUtf8-append, IsUtf8-from_ascii, IsUtf8-from_is_utf8, is_utf8-from_IsUtf8}
pub use Rattle.std.specs.Cmp.{eq_by_cmp_equiv, nat_cmp_total}
pub use Rattle.std.specs.Cmp.Lexicographic.{nat_list_cmp_total, slice_cmp}
pub use Rattle.std.specs.FinMap.{contains_key-keys, entries-insert, entries_sorted, get-insert, get-remove, get-retain_keys, get_tied, len-empty, len-entries, nat_cmp-IsAntisymmetric, same_map, slice_cmp-IsAntisymmetric}
pub use Rattle.std.specs.FinMap.Entries.{below_all, by_order, is_sorted, put}
pub use Rattle.std.specs.Int.{bit_at, div_ceil, from_le_bytes, to_le_bytes, w128, w16, w32, w64}
pub use Rattle.std.specs.Int.Bits.{xor_assoc, xor_self, xor_shifted, xor_zero_l, xor_zero_r}
pub use Rattle.std.specs.Int.RustNames.{bit_xor}
pub use Rattle.std.specs.List.{AllAdjacentBelow, AllByRecursion, AllZip, Contains, concat, cons_option, count_by, enumerate_from, list_all, list_any, position_from, position_or_len, prefix_len, range_with_len, starts_with, suffix_len}
unfoldable pub use Rattle.std.specs.List.{IsDistinct}
pub use Rattle.std.specs.List.Sorted.{IsStrictlyIncreasing}
unfoldable pub use Rattle.std.specs.List.Sorted.{IsStrictlySortedBy}
pub use Rattle.std.specs.Option.{ForSome, option_or}
pub use Rattle.std.specs.Ordering.{eq_by_cmp, is_eq, is_lt, nat_cmp}
pub use Rattle.std.specs.Prelude.{Err, IfErr, IfOk, IfSome, IsErrOf, IsPermutation, None, Ok, OnOk, Option, Result, Some, codes, decimal, filter, filter_map, find, flat_map, fold, if◌then◌else◌, is_none, is_ok, is_some, min, nat_eq, nat_le, nat_lt, ok_or, option_and_then, option_map, option_to_list, position, replicate, reverse, slice_index, sum_by, unwrap_or, zip, ◌==◌, ◌↔◌}
pub use Rattle.std.specs.Str.{IsUtf8, bytes_eq, is_utf8}
pub use Rattle.std.specs.declared.cmp.Ordering.{Ordering}
pub use Rattle.std.specs.declared.cmp.Ordering.TheVariants.{Equal}
pub use Rattle.md5.proofs.StandardFacts.{length-md5}
pub use Rattle.md5.specs.Md5.{md5}
pub use Rattle.par2_spec.specs.Changes.{Change, FolderState, Remove, Rename, Replace, Write, fault_unless, places_taken, state_after}
unfoldable pub use Rattle.par2_spec.specs.Changes.{are_applicable, change_refusal, effect, effects, folders_after, inverse, is_applicable, state_after_all, takes_all, way_back}
pub use Rattle.par2_spec.specs.Checksums.{IsPair, Pair, crc_byte, crc_step, crc_steps, pair_of}
unfoldable pub use Rattle.par2_spec.specs.Checksums.{crc32}
pub use Rattle.par2_spec.specs.Commands.{Action, Command, Create, CreateArgs, Do, Purge, Redo, Repair, Undo, Verify, files_of, outputs_of}
pub use Rattle.par2_spec.specs.Faults.{fault_at, fault_of, fault_where, first_fault, then_fault}
pub use Rattle.par2_spec.specs.Field.{is_coprime, modulus}
unfoldable pub use Rattle.par2_spec.specs.Field.{coefficient, constant, constant_powers, mul, pow, product, remainder}
pub use Rattle.par2_spec.specs.Folders.{File, Folder, IsFolder, bytes_of, files, fingerprint, has, names, without}
unfoldable pub use Rattle.par2_spec.specs.Folders.{laid_over}
pub use Rattle.par2_spec.specs.Laws.{FilesHaveTheirSize, HalfwayBytesOpenAsBefore, HalfwayBytesStillOpen, TrueSlicesAreRebuilt, TwoListsAgree}
pub use Rattle.par2_spec.specs.Lists.{all_buffers}
unfoldable pub use Rattle.par2_spec.specs.Lists.{all_below, all_lists}
pub use Rattle.par2_spec.specs.Names.{IsLeastFree, distinct, is_among, is_par_name, numbered}
unfoldable pub use Rattle.par2_spec.specs.Names.{is_name}
pub use Rattle.par2_spec.specs.Opening.{Halfway, Opened, Settled, FingerprintsDiffer, is_valid, kept_in, opened_by_part, opened_if_found, session_of, session_of_opened}
unfoldable pub use Rattle.par2_spec.specs.Opening.{Opens, OpensAs, halfway_journal, leads, leads_through, opened, settled_journal, taken_back}
pub use Rattle.par2_spec.specs.Packets.{DescBody, IfscBody, IsCanonical, IsPacket, MainBody, Packet, RecoveryBody, accepted, bytes_at, claimed_length, digest_input, items_at, magic, type_of, without_end_zeros}
unfoldable pub use Rattle.par2_spec.specs.Packets.{accepted_after, begins_with_packet, first_packet, kind_of, packet, read_desc, read_ifsc, read_main, read_recovery, u32_at, u64_at}
pub use Rattle.par2_spec.specs.Plans.{AreFewFor, LeadsToAfter, LeadsToAfterRequested, create_changes, now_at, purge_changes}
unfoldable pub use Rattle.par2_spec.specs.Plans.{changes_of, repair_changes, repair_removals}
pub use Rattle.par2_spec.specs.Polynomials.{AreElements, ArePoints, times, times_root}
unfoldable pub use Rattle.par2_spec.specs.Polynomials.{plus, quotient, value, with_roots}
pub use Rattle.par2_spec.specs.Rank.{Agrees, AnotherAgrees, AreBytes, IsKept, IsRebuilt, IsRepairable, IsVector, Kills, is_as_known, is_repairable, is_zero, kept, kept_slices, kills, rank, smaller, AreSurvivors}
unfoldable pub use Rattle.par2_spec.specs.Rank.{agrees, is_independent, is_solvable}
pub use Rattle.par2_spec.specs.Recovery.{coefficients}
unfoldable pub use Rattle.par2_spec.specs.Recovery.{combination, dot, recovery}
pub use Rattle.par2_spec.specs.Refusals.{absent_file, are_counts, bad_name, by_set, purge_refusal}
unfoldable pub use Rattle.par2_spec.specs.Refusals.{after, create_refusal, early_refusal, head_fault, refusal, repair_refusal, set_in}
pub use Rattle.par2_spec.specs.Repairs.{AreFew, HoldsRepaired, after_purge, after_repair_and_purge, aside_files, cut_into, files_of_slices, is_par_file, matched_files, names_without_match, par_files, put_aside, taken_for}
unfoldable pub use Rattle.par2_spec.specs.Repairs.{after_repair, aside, rebuilt, rebuilt_targets}
pub use Rattle.par2_spec.specs.Reports.{IsVerdict, IsVerdictIn, RefusedAsReported, Report, is_complete, incomplete_state, verdict_of}
unfoldable pub use Rattle.par2_spec.specs.Reports.{report_in, report_of, report_of_target, state_of}
pub use Rattle.par2_spec.specs.Search.{NoCollision, candidates, intact_names, is_intact, is_incomplete, lost, match_of, matched, matching, incomplete, incomplete_names, survivors}
unfoldable pub use Rattle.par2_spec.specs.Search.{known, matches}
pub use Rattle.par2_spec.specs.Sessions.{CanWalk, KeptSession, OnlyGrew, Session, changes_unless, first_entry, others, session_of_kept, session_unless}
unfoldable pub use Rattle.par2_spec.specs.Sessions.{changes_requested, folders_along, history_of, kept_done, kept_redone, kept_undone, session_after, session_with, walks}
pub use Rattle.par2_spec.specs.Sets.{IsSound, MadeFrom, ParSet, Target, all_pairs, all_some, are_in_profile, description_of, is_slice_size, main_of, other_par_names, packets_with, pairs_of, recovery_of, target_names, target_of, target_of_file, unless, ◌>>=◌}
unfoldable pub use Rattle.par2_spec.specs.Sets.{read_set, set_of}
pub use Rattle.par2_spec.specs.Slices.{slice_at, slice_count, slices, word}
pub use Rattle.par2_spec.specs.Sums.{OneChanged, list_at, lists_of, row_sum, GivesElements}
unfoldable pub use Rattle.par2_spec.specs.Sums.{field_sum}
pub use Rattle.par2_spec.specs.Volumes.{FileRecord, IsFileRecord, all_slices, creator_bytes, desc_bytes, five_digits, id_number, ifsc_bytes, insert_by_id, main_bytes, main_id, packet_of, padded_4, pair_bytes, recovery_bytes, recovery_packets, stem, volume_name, volume_numbers, volume_size, volumes_before}
unfoldable pub use Rattle.par2_spec.specs.Volumes.{in_id_order, index_packets, record_of, volumes}
pub use Rattle.par2_spec.specs.Windows.{found, is_match, window, windows}
pub use Rattle.par2_spec.specs.declared.Fault.{Fault}
pub use Rattle.par2_spec.specs.declared.Fault.TheVariants.{BadBase, BadCount, BadSet, BadSliceSize, Memory, NameTooLong, NoChecksums, NoDescription, NoInput, NoMain, NoSuchFile, NotRepairable, RepairFailed}
pub use Rattle.par2_spec.specs.declared.Kind.{Kind}
pub use Rattle.std.proofs.Math.Pow.{pow-lt}
pub use Rattle.std.proofs.lemmas.Fmt.{decimal_by_steps, decimal_injective, decimal_nonempty, IsAscii-decimal}
pub use Rattle.std.proofs.lemmas.Str.Ascii.{IsAscii-cons}
pub use Rattle.std.proofs.lemmas.Map.Steps.{length-le_from_distinct_below}
pub use Rattle.par2_spec.specs.History.{History, Refusal, NothingToUndo, NothingToRedo, after_command, unless_refused, after_undo, after_redo, Execution, Ended, Accepted, Passed, folders, IsChanging}
unfoldable pub use Rattle.par2_spec.specs.History.{history_after}
pub use Rattle.par2_spec.specs.Runs.{AreSlices, AreClose, HasRun}
pub use Rattle.std.proofs.Math.Logic.{⊎_map}
pub use Rattle.std.proofs.lemmas.List.Sorted.{All-permutation, IsPermutation-sym, IsPermutation-refl, IsPermutation-trans, IsPermutation-cons, IsPermutation-swap, IsPermutation-map}
pub use Rattle.std.proofs.lemmas.Map.Views.{Contains-from_any, list_any-from_Contains}
pub use Rattle.par2_spec.specs.declared.Version.{Version}
pub use Rattle.par2_spec.specs.Journals.{Journal, HalfwayPart, IsHalfwayPart, Spells, IsJournal}
pub use Rattle.par2_spec.specs.declared.JournalFault.{JournalFault}
pub use Rattle.par2_spec.specs.declared.JournalFault.TheVariants.{JournalInvalid}
pub use Rattle.std.specs.BTreeSet.{BTreeSet, contains}
pub use Rattle.std.specs.BTreeMap.{is_at}
pub use Rattle.par2_spec.specs.declared.Verdict.{Verdict}
pub use Rattle.par2_spec.specs.declared.Verdict.TheVariants.{Complete, Repairable}
pub use Rattle.std.specs.Io.KnownBytes.{Appends}
pub use Rattle.std.proofs.KnownBytes.{Appends-trans}
pub use Rattle.par2_spec.specs.Writing.{Writer, TookAll, TookPart, Wrote}
pub use Rattle.par2_spec.specs.declared.Kind.TheVariants.{Main, Ifsc, Recovery, FileDesc, Creator}
