-- The names that proofs of this crate take from elsewhere.

pub use Rattle.std.proofs.Common.{Bool, Err, IsTrue, List, None, Ok, Option, Result, Some, Vec, [], ap, append-nil, arith, drop, false, get_or, inl, inr, leb, length, length-append, length-set, length-take, map, refl, rules, set, string_bytes, subst, suc, sym, take, true, vec_capacity, vec_len, zero, ℕ, ◌&&◌, ◌++◌, ◌+◌, ◌-◌, ◌<◌, ◌∙◌, ◌∷◌, ◌≡◌, ◌≢◌, ◌≤◌}
pub use Rattle.std.proofs.Math.Logic.{⊎_map}
pub use Rattle.std.proofs.lemmas.Bool.{and_from, and_parts, and_right, both_ways, cases_Bool, cases_lt, false≢true, le-leb, leb-true}
pub use Rattle.std.proofs.lemmas.List.{drop-map, drop-set, drop-set-lt, drop_all, drop_more, get_or-set_same, get_or_default, length-map, length-reverse, length-take-le, nil_from_length, reverse-append, reverse-reverse, set-get_or, set-set, take-append-drop, take-set, take_all, take_more, take_more_set}
pub use Rattle.std.proofs.lemmas.Result.{err_from_is_err_and, on_ok_weaker}
pub use Rattle.std.specs.List.{insert}
pub use Rattle.std.specs.Prelude.{IfErr, IfOk, IfSome, IsErr, IsErrAnd, IsFalse, MatchResult, OnOk, String, if◌then◌else◌, is_ok, option_map, position, reverse, slice_get, ◌↔◌, ◌⊎◌}
pub use Rattle.std.specs.Str.{bytes_eq}
pub use Rattle.std.specs.declared.alloc.Global.{Global}
pub use Rattle.par2_files.specs.Folders.{change_of}
pub use Rattle.par2_journal.specs.Sessions.{CanBe, Fits, HasPrintsOf, IsReady, action_for, after_commit, changes_by_kind, entries_for, kept_journal, moved, next_changes, next_of, opposite, kept_session, CompletesHalfway, SpellsReady, SpellsWhere, halfway_with}
pub use Rattle.par2_journal.specs.Commands.{AnswersOpening, AnswersWhere, IsReportedWhere, AreUndone, UndosGiveBack, kept_history, MakesReady, Prepares, MayRefuse, nothing_for}
pub use Rattle.par2_journal.specs.declared.opening.Next.{Next}
pub use Rattle.par2_journal.specs.declared.commands.Kind.{Kind}
pub use Rattle.par2_journal.specs.declared.commands.Kind.TheVariants.{Changing, Moving}
pub use Rattle.par2_journal.specs.declared.commands.Prepared.{Prepared}
pub use Rattle.par2_journal_format.specs.Journals.{changes_in, halfway_of, journal_from, journal_of, IsRefusal, IsSealed, Begins}
pub use Rattle.par2_repair.specs.Repairing.{HasItsMd5s, IsDraft}
pub use Rattle.par2_repair.specs.declared.repair.Draft.{Draft}
pub use Rattle.par2_spec.proofs.FolderLaws.{changes_back, more_room_all, state_all_back, state_files, takes_applicable, takes_none, accepted_next, done_can_walk, done_of_kept, grown_can_walk, next_taken, ok_no_err, redone_can_walk, redone_of_kept, refused_alike, run_leaves, same_ok, same_session, undone_can_walk, undone_of_kept, walked_is_valid, none_dropped}
pub use Rattle.par2_spec.specs.Prelude.{Change, FolderState, inverse, state_after, state_after_all, Action, Command, Create, Do, Purge, Redo, Repair, Undo, Folder, fingerprint, Accepted, Ended, History, IsChanging, MayBeRefused, Passed, Refusal, Execution, HalfwayPart, Journal, Spells, halfway_where, is_valid, opened_by_part, LeadsToAfterRequested, after, early_refusal, refusal, CanWalk, KeptSession, OnlyGrew, Session, changes_unless, first_entry, others, session_of_kept, session_unless, session_with, Step, step_of, action_of, create_args_of, NothingToUndo, NothingToRedo, folders}
unfoldable pub use Rattle.par2_spec.specs.Prelude.{are_applicable, effect, effects, folders_after, takes_all, way_back, history_after, halfway_journal, leads_through, settled_journal, changes_requested, history_of, kept_done, kept_redone, kept_undone, session_after, walks, folders_along}
pub use Rattle.par2_spec.specs.declared.Version.TheVariants.{Two}
pub use Rattle.std.proofs.lemmas.List.Edits.{insert_end, length-insert}
pub use Rattle.par2_laws.proofs.UndoneFolders.{one_fewer}
pub use Rattle.par2_spec.specs.declared.JournalFault.{JournalFault}
pub use Rattle.par2_spec.specs.declared.JournalFault.TheVariants.{JournalInvalid, Memory}
pub use Rattle.par2_journal.specs.declared.opening.Opened.{Opened}
pub use Rattle.std.proofs.lemmas.Slice.Eq.{bytes_eq-Decides}
pub use Rattle.md5.specs.Md5.{md5}
pub use Rattle.par2_journal_format.proofs.Whole.{spells_sealed}
pub use Rattle.par2_journal_format.proofs.Walks.{left_at, places_within, each_after, back_taken, back_leads, back_again}
pub use Rattle.par2_journal_format.specs.Walking.{go_through, prints_along, session_at}
pub use Rattle.par2_spec.specs.declared.Fault.{Fault}
pub use Rattle.par2_spec.specs.declared.Fault.TheVariants.{RepairFailed}
pub use Rattle.par2_journal.specs.declared.commands.SessionFault.{SessionFault}
pub use Rattle.par2_journal.specs.declared.commands.SessionFault.TheVariants.{Plan}
pub use Rattle.par2_journal.specs.declared.commands.Journals.{Journals}
