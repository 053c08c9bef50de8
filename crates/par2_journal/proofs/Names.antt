-- The names that answers take from elsewhere and from the lemmas.

pub use Rattle.par2_journal.proofs.Common.{◌≡◌, length, take, drop, sym, subst, arith, IfOk, reverse, is_valid, session_at, on_ok_weaker, ◌+◌, ap, ◌∙◌, change_of, changes_in, List, map, Change, effects, None, Some, halfway_of, journal_of, opened_by_part, ◌-◌, ◌++◌, ◌∷◌, [], true, get_or, vec_len, vec_capacity, fingerprint, way_back, state_files, kept_done, kept_journal, Changing, takes_all, FolderState, KeptSession, kept_session, ◌≢◌, ◌<◌, length-set, kept_undone, kept_redone, Next, entries_for, moved, Create, create_args_of, ok_no_err, insert, Purge, step_of, action_for, MayRefuse, string_bytes, OnOk, Repair, session_of_kept, accepted_next, walked_is_valid, action_of, Execution, Ended, history_of, run_leaves, CanWalk, Moving, next_changes, append-nil, OnlyGrew, grown_can_walk, ℕ, Bool, Global, err_from_is_err_and, String, IsDraft, Draft, early_refusal, prints_along, inr, refl, leads_through, ◌&&◌, false, Ok, Err, drop-map, ⊎_map, and_from, and_right, go_through, rules, each_after, back_taken, back_leads, back_again}
pub use Rattle.par2_journal.proofs.Readiness.{at_end, folders_count, both_spelled, done_at, settled_with, plan_ready, nothing_to_move, ready_move, moved_back, moved_entry, moved_files, moved_some, settled_at, prepares, move_taken, can_change, along_still, draft_ready, draft_refused}
pub use Rattle.par2_journal.proofs.Openings.{by_journal, not_decoded, opened_with, answer, halfway_is, takes_roomier, same_files_after}
pub use Rattle.par2_journal.specs.Sessions.{IsKeptSession}
pub use Rattle.par2_journal.proofs.Entries.{back_length, undo_there, redo_there, undo_taken, undone_to, undone_walks, next_undo_is, redo_taken, redone_to, redone_walks, next_redo_is, length_added, done_walks, acted, give_back, none_left, on_accepted, on_refused}
pub use Rattle.std.specs.Prelude.{IsTrue}
pub use Rattle.par2_journal.specs.declared.opening.Next.TheVariants.{Undo, Redo}
pub use Rattle.par2_spec.specs.Prelude.{AreFewFor, AnswersRepair, IsRepaired, folder_left}
pub use Rattle.par2_laws.proofs.RepairAnswers.{answered, session_answers, stands_in_front, together}
pub use Rattle.par2_files.specs.Checkpoints.{AreCheckpointsOf}
pub use Rattle.par2_journal.specs.StepViews.{step_view}
pub use Rattle.std.proofs.lemmas.Iterator.{YieldsList-from_map_by, YieldsList-from_slice}
pub use Rattle.std.proofs.lemmas.Iterator.Consumers.{map_from_collect}
pub use Rattle.std.proofs.lemmas.Simd.{map-map}
