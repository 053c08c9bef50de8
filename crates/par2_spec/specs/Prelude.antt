-- The names that most definitions and clauses cite, from one place. It declares nothing.
pub use Rattle.std.specs.BTreeMap.{BTreeMap, get_by}
pub use Rattle.std.specs.BTreeSet.{BTreeSet, contains}
pub use Rattle.std.specs.Borrow.{Array, Bor, Fml, Lends, MutBor}
pub use Rattle.std.specs.Cmp.Lexicographic.{slice_cmp}
pub use Rattle.std.specs.Coded.{Coded, code_by, coded_list, coded_ℕ, coded×}
pub use Rattle.std.specs.FinMap.{FinMap, entries, from_sorted, is_sorted}
pub use Rattle.std.specs.Fs.{IsFile, file_type, metadata_len}
pub use Rattle.std.specs.Int.{bit_at, from_le_bytes, to_le_bytes, w128, w64}
pub use Rattle.std.specs.IoError.{error_kind}
pub use Rattle.std.specs.Iterator.{Drains, YieldsThen}
pub use Rattle.std.specs.List.{All, AllByRecursion, FoldsTo, concat, count_by, enumerate_from, list_all, list_any, range_with_len, starts_with, sum_by}
pub use Rattle.std.specs.List.Sorted.{IsNonDecreasingBy, IsStrictlyIncreasing}
pub use Rattle.std.specs.Map.{lookup}
pub use Rattle.std.specs.Option.{is_none, option_map_or, option_or}
pub use Rattle.std.specs.Ordering.{eq_by_cmp, is_lt, nat_cmp, ord_min, ordering_then}
pub use Rattle.std.specs.Str.{bytes_eq}
pub use Rattle.std.specs.Str.Parse.{digits_value, without_leading_plus}
pub use Rattle.par2_spec.specs.Answers.{FailsFor, Lists}
pub use Rattle.par2_spec.specs.Changes.{Change, FolderState, Remove, Rename, Replace, Write, places_taken, state_after}
pub use Rattle.par2_spec.specs.Checksums.{Pair, crc_byte, crc_step, crc_steps, pair_of}
pub use Rattle.par2_spec.specs.Codes.{change_code, folder_state_code, kept_session_code, step_code}
pub use Rattle.par2_spec.specs.Commands.{Action, Command, Create, CreateArgs, Do, Purge, Redo, Repair, Undo, Verify, files_of, outputs_of, words_of}
pub use Rattle.par2_spec.specs.Damage.{CreatedSetIsMadeFromItsFiles, FitsCreate, FollowsCreate, HaveAChoice, IsDamage, may_refuse, written_names}
pub use Rattle.par2_spec.specs.Faults.{fault_at, fault_of, fault_where, first_fault, then_fault}
pub use Rattle.par2_spec.specs.Field.{is_coprime}
pub use Rattle.par2_spec.specs.Folders.{File, Folder, IsFolder, behind_length, bytes_of, files, has, names}
pub use Rattle.par2_spec.specs.History.{Accepted, Ended, Execution, History, IsChanging, MayBeRefused, NothingToRedo, NothingToUndo, Passed, Refusal, after_undo, folders, in_front, unless_refused}
pub use Rattle.par2_spec.specs.Journals.{HalfwayPart, IsChange, IsCursor, IsDigest, IsEntry, IsFileBytes, IsHalfwayPart, IsJournal, Journal, Spells, change_bytes, cursor_bytes, entry_bytes, halfway_bytes, heading, name_bytes}
pub use Rattle.par2_spec.specs.KnownFiles.{AreAllOf, AreDescribed, AreInputs, HoldsVolumes, IsOf, IsOfOthers, IsVolume, IsVolumeOrOther, PacketsTellTheFiles, VolumesTellTheFiles, is_read, set_id_of}
pub use Rattle.par2_spec.specs.Laws.{TwoListsAgree}
pub use Rattle.par2_spec.specs.NameTrees.{HoldsNames}
pub use Rattle.par2_spec.specs.Names.{distinct, is_among, is_par_name, numbered}
pub use Rattle.par2_spec.specs.Opening.{FingerprintsDiffer, Halfway, Opened, Settled, Started, halfway_where, is_valid, new_session, opened_by_part, started}
pub use Rattle.par2_spec.specs.Output.{Done, Outcome, Removes, Renames, Replaces, Reported, Step, Writes, done_lines, line, lost_line, note_line, of_all, step_line, step_of, target_line, verdict_words, word_at}
pub use Rattle.par2_spec.specs.Packets.{DescBody, IfscBody, MainBody, Packet, RecoveryBody, accepted, bytes_at, claimed_length, digest_input, items_at, magic, type_of, without_end_zeros}
pub use Rattle.par2_spec.specs.Planned.{FailsAs, FailsIn, GivesChanges, LeadsAs, RefusesEarly, SucceedsAs, repair_of, verify_of}
pub use Rattle.par2_spec.specs.Plans.{AreFewFor, LeadsToAfter, LeadsToAfterRequested, create_changes, now_at, purge_changes}
pub use Rattle.par2_spec.specs.Polynomials.{AreElements, ArePoints, times, times_root}
pub use Rattle.par2_spec.specs.Premises.{HoldsBytes, IsTrueTo}
pub use Rattle.par2_spec.specs.Rank.{Agrees, AnotherAgrees, AreBytes, IsRebuilt, IsRepairable, IsVector, Kills, TwoAgree, is_repairable, kept, kept_slices, kills, rank, smaller}
pub use Rattle.par2_spec.specs.Recovery.{coefficients}
pub use Rattle.par2_spec.specs.Refusals.{absent_file, are_counts, bad_name, by_set, early_refusal_of, is_input_name, purge_refusal}
pub use Rattle.par2_spec.specs.RepairLaws.{AcceptedRepairLeavesTheFiles, AnswersRepair, CreatedFilesHaveAChoice, CreatedFilesMayBeRefused, HasFiles, IsRepaired, KeepsFiles, LeavesEachFile, OthersAgree, RefusedRepairLeavesAChoice, RefusedRepairLeavesTwoLists, RepairGivesTheCreatedFilesBack, RepairLeavesEachFile, RepairNeverFails, RepairRestoresTheFiles, RepairRestoresTheInputs, RestoresFiles, RestoresInputs, folder_left}
pub use Rattle.par2_spec.specs.Repairs.{AreFew, cut_into, files_of_slices, is_par_file, names_without_match, par_files, put_aside, taken_for}
pub use Rattle.par2_spec.specs.Reports.{Complete, Damaged, IsVerdictIn, Misplaced, Missing, RefusedAsReported, Report, State, TargetReport, incomplete_state, is_complete, verdict_of}
pub use Rattle.par2_spec.specs.Runs.{AreClose, AreSlices, HasRun}
pub use Rattle.par2_spec.specs.Search.{candidates, incomplete, incomplete_names, intact_names, is_incomplete, is_intact, lost, matched, matching, survivors}
pub use Rattle.par2_spec.specs.Sessions.{CanWalk, KeptSession, OnlyGrew, Session, changes_unless, first_entry, others, session_of_kept, session_unless}
pub use Rattle.par2_spec.specs.Sets.{IsSound, ParSet, Target, all_pairs, all_some, are_in_profile, description_of, is_slice_size, main_of, other_par_names, packets_with, pairs_of, recovery_of, target_names, target_of, unless, ◌>>=◌}
pub use Rattle.par2_spec.specs.Slices.{padded, slice_at, slice_count, slices, word, words}
pub use Rattle.par2_spec.specs.Stores.{Contents, with_change, with_journal}
pub use Rattle.par2_spec.specs.Sums.{GivesElements, OneChanged, list_at, lists_of, row_sum}
pub use Rattle.par2_spec.specs.Views.{action_of, command_of, create_args_of}
pub use Rattle.par2_spec.specs.Volumes.{all_slices, creator_bytes, desc_bytes, five_digits, id_of, ifsc_bytes, main_bytes, main_id, packet_of, pair_bytes, recovery_bytes, recovery_packets, stem, volume_name, volume_numbers, volume_size, volumes_before}
pub use Rattle.par2_spec.specs.Windows.{Matches, first_match, found, is_match, window, windows}
pub use Rattle.par2_spec.specs.Writing.{TookPart}
unfoldable pub use Rattle.par2_spec.specs.Changes.{are_applicable, change_refusal, effect, effects, folders_after, inverse, is_applicable, state_after_all, takes_all, way_back}
unfoldable pub use Rattle.par2_spec.specs.Checksums.{crc32}
unfoldable pub use Rattle.par2_spec.specs.Field.{coefficient, constant, constant_powers, mul, pow}
unfoldable pub use Rattle.par2_spec.specs.Folders.{fingerprint}
unfoldable pub use Rattle.par2_spec.specs.History.{history_after}
unfoldable pub use Rattle.par2_spec.specs.Journals.{journal_bytes, spelling}
unfoldable pub use Rattle.par2_spec.specs.Lists.{all_below}
unfoldable pub use Rattle.par2_spec.specs.Names.{is_name}
unfoldable pub use Rattle.par2_spec.specs.Opening.{Opens, OpensAs, halfway_journal, journals_of, leads, leads_through, opened, settled_journal}
unfoldable pub use Rattle.par2_spec.specs.Output.{error_of, failure_line, output_of, report_lines, status_of, status_of_failure, status_of_fault}
unfoldable pub use Rattle.par2_spec.specs.Packets.{accepted_after, begins_with_packet, first_packet, packet, read_desc, read_ifsc, read_main, read_recovery, u32_at, u64_at}
unfoldable pub use Rattle.par2_spec.specs.Plans.{changes_of, repair_changes, repair_removals}
unfoldable pub use Rattle.par2_spec.specs.Polynomials.{plus, quotient, value, with_roots}
unfoldable pub use Rattle.par2_spec.specs.Rank.{is_independent}
unfoldable pub use Rattle.par2_spec.specs.Recovery.{combination, dot, recovery}
unfoldable pub use Rattle.par2_spec.specs.Refusals.{after, create_refusal, early_refusal, head_fault, refusal, repair_refusal, set_in}
unfoldable pub use Rattle.par2_spec.specs.Repairs.{aside, rebuilt, rebuilt_targets}
unfoldable pub use Rattle.par2_spec.specs.Reports.{report_in, report_of, report_of_target, state_of}
unfoldable pub use Rattle.par2_spec.specs.Search.{known, matches}
unfoldable pub use Rattle.par2_spec.specs.Sessions.{changes_requested, folders_along, history_of, kept_done, kept_redone, kept_undone, session_after, session_with, walks}
unfoldable pub use Rattle.par2_spec.specs.Sets.{read_set, set_of}
unfoldable pub use Rattle.par2_spec.specs.Sums.{field_sum}
unfoldable pub use Rattle.par2_spec.specs.Volumes.{in_id_order, index_packets, packets_of, record_of, volumes}
