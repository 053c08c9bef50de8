-- The names that proofs of this crate take from elsewhere.

pub use Rattle.std.proofs.Common.{Bool, Err, IsTrue, List, None, Ok, Option, Result, Some, Vec, [], ap, arith, drop, false, get_or, inl, inr, le-add_right, le_refl, le_trans, length, map, refl, replicate, rules, subst, suc, sym, take, true, true≢false, zero, ℕ, ◌++◌, ◌+◌, ◌<◌, ◌∙◌, ◌∷◌, ◌≡◌, ◌≢◌, ◌≤◌, ◌⊎◌}
pub use Rattle.std.proofs.lemmas.Bool.{and_parts, false≢true}
pub use Rattle.std.proofs.lemmas.List.{append-nil, length-map, length-replicate, map_more, replicate_more, take-map, take_all}
pub use Rattle.std.proofs.lemmas.Result.{IfErr-weaker, IfOk-from_err, IfOk-weaker, err_from_is_err_and, on_err_weaker, on_ok_weaker}
pub use Rattle.std.specs.List.{AllByRecursion}
pub use Rattle.std.specs.Prelude.{IfErr, IfOk, IsErr, IsOk, OnErr, OnOk, codes, flat_map, is_some, option_map, string_bytes}
pub use Rattle.std.specs.declared.alloc.Global.{Global}
pub use Rattle.par2_arguments.specs.Definition.{AskFor, par2_app}
pub use Rattle.par2_files.specs.Folders.{change_of}
pub use Rattle.par2_journal.specs.Opening.{opened_of, session_before, way_left}
pub use Rattle.par2_journal.specs.Sessions.{CanBe, IsReady, after_commit, changes_by_kind, entries_for, moved, next_of, SpellsReady, SpellsWhere}
pub use Rattle.par2_journal.specs.SessionRefusals.{MayRefuse}
pub use Rattle.par2_journal.specs.StepViews.{step_view}
pub use Rattle.par2_journal.specs.declared.opening.Next.{Next}
pub use Rattle.par2_journal.specs.declared.commands.Kind.{Kind}
pub use Rattle.par2_journal.specs.declared.commands.Kind.TheVariants.{Changing, Moving}
pub use Rattle.par2_journal.specs.declared.commands.Prepared.{Prepared}
pub use Rattle.par2_journal.specs.declared.commands.SessionFault.{SessionFault}
pub use Rattle.par2_journal.specs.declared.commands.SessionFault.TheVariants.{NothingToRedo, NothingToUndo, Plan}
pub use Rattle.par2_journal.specs.declared.commands.Journals.{Journals}
pub use Rattle.par2_spec.specs.Prelude.{may_refuse, Change, takes_all, Action, Command, CreateArgs, Do, Repair, Undo, Verify, Folder, Accepted, Ended, Execution, History, IsChanging, Passed, Refusal, folders, Journal, Spells, FingerprintsDiffer, Halfway, Opened, Settled, Started, halfway_where, is_valid, new_session, opened, settled_journal, started, Outcome, line, step_line, target_line, verdict_words, LeadsToAfterRequested, changes_of, early_refusal_of, set_in, Report, report_of, verdict_of, CanWalk, KeptSession, OnlyGrew, Session, changes_unless, session_of_kept, session_unless, session_with, Contents, with_change, with_journal, action_of, command_of, candidates, ParSet, ◌>>=◌, fault_of}
pub use Rattle.par2_output.specs.Printing.{words_requested, PrinterTookAll, PrinterWrote, seen}
pub use Rattle.par2_output.specs.declared.printer.Printer.{Printer}
pub use Rattle.par2_verify.specs.ReportViews.{report_view, target_report_of}
pub use Rattle.par2_spec.proofs.FolderLaws.{accepted_next, done_can_walk, grown_can_walk, ok_no_err, redone_can_walk, refused_alike, same_ok, same_session, undone_can_walk, walked_is_valid, state_files, taken_are_applicable}
pub use Rattle.par2_spec.proofs.StopLaws.{halfway_stored, settled_stored, still_stored, taken_back_leads}
pub use Rattle.par2_spec.proofs.ListsLaws.{by_either}
pub use Rattle.par2_spec.proofs.WritingLaws.{part_behind, shown_lines_cut, shown_lines_next, took_both, wrote_less, wrote_then}
unfoldable pub use Rattle.par2_spec.specs.Prelude.{are_applicable, effects, history_after, Opens, OpensAs, journals_of, leads, output_of, report_lines, status_of, status_of_failure, status_of_fault, refusal, report_in, changes_requested, history_of, kept_done, kept_redone, kept_undone, session_after}
pub use Rattle.par2_spec.specs.declared.Failure.{Failure}
pub use Rattle.par2_spec.specs.declared.Failure.TheVariants.{FolderChanged, JournalInvalid, Refused, Store, Arguments}
pub use Rattle.par2_spec.specs.declared.Fault.{Fault}
pub use Rattle.par2_spec.specs.declared.Fault.TheVariants.{Memory, NotRepairable, RepairFailed}
pub use Rattle.par2_spec.specs.declared.JournalFault.{JournalFault}
pub use Rattle.par2_spec.specs.declared.Version.TheVariants.{Two}
pub use Rattle.par2_tool.specs.OpenedStores.{ActsOn, AreAtMost, AreCallsToOpen, AreSomeWritten, ContentsAreDurable, CountsCalls, FingerprintsDifferAlong, FingerprintsDifferBack, Holds, HoldsAfter, HoldsJournaled, IsAnswer, IsCounted, IsHalfway, IsOn, IsOpened, IsOpening, IsPerformed, IsRefused, IsSettled, IsStillHalfway, IsStoppedAt, IsTakenBack, IsUnopened, IsVerify, IsWritten, KeepsStore, OnlyTakesBack, OpensAsBefore, OpensAsBeforeOrAfter, OpensStore, RefusesAtOnce, StandsFor, WasRead, after_write_down, calls_before, calls_requested, calls_unless, failure_for, outcome_of, refused_as, started_of, unopened_as, with_all_changes, with_halfway_journal, with_history}
pub use Rattle.par2_tool.specs.Runs.{Answered, AreCallsToRun, AskForRepair, CountsFailedRun, Effective, Failed, FingerprintsDifferInRun, HasNoEffect, IsBack, IsCause, IsDone, IsFailed, IsOneUndoFrom, IsPrinted, IsRefusedFor, IsResult, IsRun, IsRunResult, IsShown, IsStopped, IsUnread, KeepOneHistory, LeadBack, LeavesStopped, OpensInOneWay, RunResult, Runs, TakesEffect}
pub use Rattle.par2_tool.specs.declared.opening.OpenFault.{OpenFault}
pub use Rattle.par2_tool.specs.declared.performing.PerformFault.{PerformFault}
pub use Rattle.par2_disk.specs.Stores.{OnlyReads}
pub use Rattle.par2_laws.proofs.UndoneFolders.{one_fewer}
pub use Rattle.std.specs.Io.KnownBytes.{Appends}
pub use Rattle.std.proofs.KnownBytes.{Appends-trans}
pub use Rattle.par2_laws.proofs.RepairAnswers.{IsRepaired, is_repaired}
pub use Rattle.std.specs.declared.io.ErrorKind.{ErrorKind}
pub use Rattle.std.specs.declared.io.ErrorKind.TheVariants.{OutOfMemory}
unfoldable pub use Rattle.par2_tool.specs.Runs.{failure_of_kind}
pub use Rattle.clap.specs.Words.{Text, takes, subcommand_of}
pub use Rattle.par2_arguments.specs.declared.read.WordsFault.{WordsFault}
