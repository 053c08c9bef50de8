-- The names that answers take from elsewhere and from the lemmas.

pub use Rattle.par2_tool.proofs.Common.{Err, ◌≡◌, ◌+◌, ◌<◌, inl, inr, arith, false, sym, ap, subst, ◌∙◌, err_from_is_err_and, le_trans, refl, by_either, Started, session_of_kept, command_of, calls_requested, outcome_of, failure_for, started_of, IsOpened, IsBack, IsCounted, IsFailed, IsResult, Failed, Failure, words_requested, LeavesStopped, Result, Ok, [], drop, map, string_bytes, IsUnread, IfOk, IsOk, IfOk-weaker, IfErr-weaker, IsRun, IsShown, failure_of_kind, status_of, Answered, IsPrinted, ◌≢◌, ◌⊎◌, ℕ, List, Some, Action, Repair, Undo, AskFor, TakesEffect, AskForRepair, Folder, CreateArgs, Fault, status_of_fault, may_refuse, false≢true, true, IsTrue, IfOk-from_err, take_all, length, Contents, with_change, with_journal, on_err_weaker, on_ok_weaker, change_of, with_all_changes, IsStoppedAt, ◌≤◌, take, OnOk, IfErr, Memory, IsVerify, HoldsJournaled, AreAtMost, SessionFault, KeptSession, after_write_down, IsWritten, FingerprintsDifferAlong, OpensAsBeforeOrAfter, calls_before, length-map, Verify, changes_requested, action_of, report_view, MayRefuse, Plan, SpellsReady, changes_by_kind, after_commit, ok_no_err, early_refusal_of, effects, PerformFault, ActsOn, IsOn, IsPerformed, RefusesAtOnce, Vec, option_map, Global, WasRead, rules, Halfway, Opens, opened_of, session_before, way_left, OpensAsBefore, with_history, None, IsStillHalfway, ◌++◌, codes, flat_map, Report, verdict_of, line, target_line, verdict_words, PrinterWrote, seen, part_behind, shown_lines_cut, shown_lines_next, target_report_of, took_both, wrote_less, wrote_then, Bool, Option, Printer, step_line, step_view}
pub use Rattle.par2_tool.proofs.Openings.{opening_calls, perform_calls, run_calls, stands_calls, done_for, files_of, no_way_back, verify_failed, cut_of_command, opening_cause, opening_failed, perform_cause, perform_failed, stopped_opening, leaves_first, leaves_older, any_err, any_ok, applicable_here, begun_remains, ended_remains, made_next, next_remains, some_crash_states, halfway_files, for_verify, requested_calls, ready_calls, session_counts, IsMadeReady, none_made, made_ready, ready_applies, written_down, stopped_opens, requested_in_order, as_it_was, not_verify, verify_leaves, verify_refused, written_by, bytes_read, keeps_on, opens_after_reading, reads_opens, opened_as_is, opened_new, stands, back_calls, counted_without, holds_settled, opened_taken_back, opens_still, opens_without, unopened_without, way_applies, stays_keeps, stays_opens, still_halfway}
pub use Rattle.std.specs.Vec.Iter.{into_iter_items}
pub use Rattle.std.specs.IoError.{error_kind}
pub use Rattle.std.proofs.lemmas.Grind.{common_steps}
pub use Rattle.std.proofs.lemmas.Iterator.{items_from_collect}
pub use Rattle.std.proofs.lemmas.Iterator.Adapters.{YieldsList-from_vec}
pub use Rattle.par2_spec.specs.Prelude.{Lists, HasFiles, KeepsFiles, FollowsCreate, Done, Step, done_lines, note_line}
pub use Rattle.par2_tool.proofs.Runs.{unread_words, IsRefused, Leaves, accepted_with_zero, cut_of, effect_of, leaves_of, repair_refused, repaired, stopped_effect, verify_makes_none, own_status, shown_status, reported_of}
unfoldable pub use Rattle.par2_tool.proofs.Common.{are_applicable, report_lines, output_of}
pub use Rattle.par2_disk.specs.Stores.{IsDurable}
pub use Rattle.par2_spec.specs.declared.commands.Command.{Command}
pub use Rattle.par2_spec.specs.declared.commands.Command.TheVariants.{Act}
pub use Rattle.par2_spec.proofs.AcceptedCommands.{command_leads}
pub use Rattle.par2_tool.specs.declared.performing.Outcome.{Outcome}
pub use Rattle.par2_spec.specs.declared.Verdict.{Verdict}
