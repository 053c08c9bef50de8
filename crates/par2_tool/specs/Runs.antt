-- A whole run: what its words ask for, what it prints and returns, and its effect on the store; and runs on one store.
use Rattle.std.specs.Prelude.{◌≡◌, ◌≢◌, ◌⊎◌, ◌<◌, ◌+◌, ℕ, Bool, List, [], ◌∷◌, length, map, replicate, Option, Some, Ok, Err, String, string_bytes, true}
use Rattle.std.specs.declared.alloc.Global.{Global}
use Rattle.std.specs.declared.io.ErrorKind.{ErrorKind}
use Rattle.std.specs.declared.io.ErrorKind.TheVariants as kind
use Rattle.clap.specs.Words.{Text, takes}
use Rattle.par2_spec.specs.Prelude.{AllByRecursion, Change, Action, CreateArgs, Do, Verify, Repair, Undo, File, Folder, Started, Session, changes_requested, history_after, history_of, session_after, Contents, HasFiles, KeepsFiles, OthersAgree, FollowsCreate, HaveAChoice, IsTrueTo, TookPart, LeadsToAfterRequested, Outcome, output_of, error_of, status_of, status_of_failure}
use Rattle.par2_spec.specs.History as history
use Rattle.par2_spec.specs.declared.Failure.{Failure}
use Rattle.par2_spec.specs.declared.Failure.TheVariants as failure
use Rattle.par2_spec.specs.declared.Fault.TheVariants as reason
use Rattle.par2_spec.specs.declared.JournalFault.TheVariants as journal
use Rattle.par2_arguments.specs.Definition.{AskFor, par2_app, requested_by}
use Rattle.par2_disk.specs.declared.store.Store.{Ghosts as StoreOf}
use Rattle.par2_journal.specs.declared.commands.SessionFault.TheVariants.{NothingToUndo, NothingToRedo}
use Rattle.par2_output.specs.Printing.{words_requested, PrinterTookAll, TookInVain, seen}
use Rattle.par2_output.specs.declared.printer.Printer.{Printer}
use Rattle.par2_tool.specs.declared.opening.OpenFault.TheVariants.{Store, Memory, JournalInvalid, FolderChanged}
use Rattle.par2_tool.specs.OpenedStores.{IsOpening, IsSettled, with_history, ContentsAreDurable, AreAtMost, IsHalfway, FingerprintsDifferBack, OnlyTakesBack, IsOpened, IsCounted, AreCallsToOpen, IsAnswer, IsWritten, FingerprintsDifferAlong, HoldsAfter, calls_requested}

-- the words request a repair of this base with these extra files, and a store with these contents opens on the folder
pub record AskForRepair (words : List (List ℕ)) (contents : Contents) (folder : Folder) (base : List ℕ) (extras : List (List ℕ)) : Type 0 where
  pub purge : Bool
  pub requested : AskFor words (Do (Repair base extras purge))
  pub started : Started
  pub opens : IsOpening contents (Ok started)
  pub on : started.session.folder ≡ folder

-- the words are no command line, which clap takes and which requests an action; or memory ran out
abbrev pub IsUnread : List Text → Failure → Type 0
IsUnread words why =
    ((why ≡ failure.Arguments) × (takes par2_app words ≡ true → (action : Action) → requested_by words ≡ Some action → ⊥)) ⊎ (why ≡ failure.Refused reason.Memory)

-- the failure if the runtime can't pass the words on, by the kind of its error
unfoldable pub failure_of_kind : ErrorKind → Failure
failure_of_kind kind.OutOfMemory = failure.Refused reason.Memory
failure_of_kind _ = failure.Arguments

-- the store was opened, then has the contents `between`, and the action had this outcome on the session that it opens as;
-- its changes apply in order and lead to its folder, and it had its effect on the store
pub record IsDone (action : Action) (old new : Contents) (dropped : Bool) (outcome : Outcome) : Type 0 where
  pub session : Session
  pub between : Contents
  pub opened : IsOpened old between (record { session = session; dropped = dropped })
  pub answer : IsAnswer session action outcome
  pub after : Session
  pub accepted : session_after session action ≡ Ok after
  pub leads : LeadsToAfterRequested session.folder action
  pub written : IsWritten action after between new

-- its writing calls: the opening's, and the action's on the session that the store opens as
abbrev pub AreCallsToRun : Action → Contents → ℕ → Type 0
AreCallsToRun action contents calls =
    (opening : ℕ) × AreCallsToOpen contents opening × (started : Started) × IsOpening contents (Ok started) × (calls ≡ opening + calls_requested started.session action)

-- the store was opened so, and the action is refused on this session
abbrev pub IsRefusedFor : Action → Contents → Contents → history.Refusal → Started → Type 0
IsRefusedFor action old new refusal started = IsOpened old new started × (changes_requested started.session action ≡ Err refusal)

-- the action is an undo or a redo
abbrev pub IsBack : Action → Type 0
IsBack (Do command) = ⊥
IsBack action = Unit {0}

-- different folders that a run of the action passes through, while it takes back or acts, have different fingerprints
pub record FingerprintsDifferInRun (action : Action) (contents : Contents) : Type 0 where
  pub back : FingerprintsDifferBack contents
  pub along : (started : Started) → IsOpening contents (Ok started) → FingerprintsDifferAlong started.session action

-- a stopped run, if fingerprints differ: the store is as it was, opens as before, or holds the session after the action
abbrev pub IsStopped : Action → Contents → Contents → Type 0
IsStopped action old new =
    FingerprintsDifferInRun action old
    → (new ≡ old) ⊎ ((started : Started) × IsOpening old (Ok started)
    × (IsOpening new (Ok started) ⊎ (IsOpening new (Ok (with_history started.session)) ⊎ HoldsAfter started.session action new)))

-- whatever a power cut leaves of an honest store whose contents were durable is a stopped run of the action
abbrev pub LeavesStopped : {S : Type 0} → StoreOf S → Action → S → S → Type 0
LeavesStopped store action old new =
    store.honest old → ContentsAreDurable store old → (left : Contents) → store.crash_states new left → IsStopped action (store.contents old) left

-- it is refused because memory ran out or for the cause that par2_spec names, or the store failed. FolderChanged: a
-- command was left halfway in another folder, or an undo or redo is requested although the history was dropped
abbrev pub IsFailed : Action → Contents → Contents → Failure → Type 0
IsFailed action old new (failure.Refused why) =
    ((why ≡ reason.Memory) × ((new ≡ old) ⊎ ((started : Started) × IsOpened old new started)))
    ⊎ ((started : Started) × IsRefusedFor action old new (history.Refused why) started)
IsFailed action old new failure.NothingToUndo = (session : Session) × IsRefusedFor action old new history.NothingToUndo (with_history session)
IsFailed action old new failure.NothingToRedo = (session : Session) × IsRefusedFor action old new history.NothingToRedo (with_history session)
IsFailed action old new failure.Store = IsStopped action old new
IsFailed action old new failure.Arguments = ⊥
IsFailed action old new failure.JournalInvalid = IsOpening old (Err journal.JournalInvalid) × (new ≡ old)
IsFailed action old new failure.FolderChanged =
    (IsOpening old (Err (journal.FolderChanged true)) × (new ≡ old))
    ⊎ (IsBack action × (started : Started) × IsOpened old new started × (started.dropped ≡ true))

-- its writing calls: the opening's, and if the store failed, at most those of an accepted run
abbrev pub CountsFailedRun : Action → Contents → ℕ → ℕ → Failure → Type 0
CountsFailedRun action contents before after failure.Store =
    (calls : ℕ) × (AreCallsToOpen contents calls ⊎ AreCallsToRun action contents calls) × AreAtMost calls before after
CountsFailedRun action contents before after reason = (calls : ℕ) × AreCallsToOpen contents calls × (after ≡ before + calls)

-- ---- the result of a run

-- an outcome, and whether the history was dropped; or a failure, with the words that its line may name
pub data RunResult : Type 0 where
  Answered : Bool → Outcome → RunResult
  Failed : List (List ℕ) → Failure → RunResult

-- why an action fails, whatever the store does: memory; the cause that par2_spec names, on some session; journal or store
abbrev pub IsCause : Action → Failure → Type 0
IsCause action (failure.Refused why) = (why ≡ reason.Memory) ⊎ ((session : Session) × (changes_requested session action ≡ Err (history.Refused why)))
IsCause action failure.NothingToUndo = (session : Session) × (changes_requested session action ≡ Err history.NothingToUndo)
IsCause action failure.NothingToRedo = (session : Session) × (changes_requested session action ≡ Err history.NothingToRedo)
IsCause action failure.Arguments = ⊥
IsCause action reason = Unit {0}

-- the result of an action on a store: the outcome, on some session, or the cause, whatever the store does; and, on an
-- honest store, its effect and the number of calls. Once the store has failed, Store is the only result
abbrev pub IsResult : {S : Type 0} → StoreOf S → Action → S → S → RunResult → Type 0
IsResult store action old new (Answered dropped outcome) =
    (store.failures new ≡ store.failures old) × ((session : Session) × IsAnswer session action outcome)
    × (store.honest old → IsDone action (store.contents old) (store.contents new) dropped outcome
    × (calls : ℕ) × AreCallsToRun action (store.contents old) calls × (store.writing_calls new ≡ store.writing_calls old + calls))
IsResult store action old new (Failed spoken reason) =
    (spoken ≡ words_requested action) × IsCause action reason
    × IsCounted (store.failures old < store.failures new) (store.failures old) (store.failures new) reason
    × (store.honest old → IsFailed action (store.contents old) (store.contents new) reason
    × CountsFailedRun action (store.contents old) (store.writing_calls old) (store.writing_calls new) reason)

-- the result of a run: that of the requested action, also if the power is cut; or why the words aren't read, and nothing
-- is done to the store
abbrev pub IsRunResult : {S : Type 0} → StoreOf S → List Text → S → S → RunResult → Type 0
IsRunResult store words old new result =
    ((action : Action) × AskFor words action × IsResult store action old new result × LeavesStopped store action old new)
    ⊎ ((reason : Failure) × (result ≡ Failed [] reason) × IsUnread words reason × (new ≡ old))

-- the bytes were written and flushed, and the status is the command's own; or the status is 6 because the writer
-- failed, which is counted: it took a proper prefix of the bytes, or all of them and couldn't be flushed
abbrev pub IsPrinted : {W : Type 0} → (W → Option (List ℕ)) → Printer W → Printer W → List ℕ → ℕ → ℕ → Type 0
IsPrinted held old new bytes own status =
    (PrinterTookAll held old new bytes × (new.is_flushed ≡ true) × (status ≡ own))
    ⊎ ((TookPart (seen held old) (seen held new) bytes ⊎ TookInVain held old new bytes) × (status ≡ 6))

-- an outcome is printed on the output, a failure on the error writer; the other printer is as it was
abbrev pub IsShown : {O E : Type 0} → RunResult → (O → Option (List ℕ)) → Printer O → Printer O → (E → Option (List ℕ)) → Printer E → Printer E → ℕ → Type 0
IsShown (Answered dropped outcome) held out out_after held_by_err err err_after status =
    IsPrinted held out out_after (output_of dropped outcome) (status_of outcome) status × (err_after ≡ err)
IsShown (Failed spoken reason) held out out_after held_by_err err err_after status =
    IsPrinted held_by_err err err_after (error_of spoken reason) (status_of_failure reason) status × (out_after ≡ out)

-- a run with these words has a result, and the two writers show it
pub record IsRun {S O E : Type 0} (store : StoreOf S) (held : O → Option (List ℕ)) (held_by_err : E → Option (List ℕ)) (words : List Text) (old new : S) (out out_after : Printer O) (err err_after : Printer E) (status : ℕ) : Type 0 where
  pub run_result : RunResult
  pub reported : IsRunResult store words old new run_result
  pub shown : IsShown run_result held out out_after held_by_err err err_after status

-- ---- runs on one store, each of which opens it again

-- a run takes effect: the action is accepted, or it is stopped and the store holds the session after it
abbrev pub TakesEffect : Action → Contents → Contents → Type 0
TakesEffect action old new =
    ((dropped : Bool) × (outcome : Outcome) × IsDone action old new dropped outcome)
    ⊎ ((started : Started) × IsOpening old (Ok started) × HoldsAfter started.session action new)

-- a run has no effect: it does nothing to the store, or leaves one that opens as the same session as before
abbrev pub HasNoEffect : Contents → Contents → Type 0
HasNoEffect old new = (new ≡ old) ⊎ ((started left : Started) × IsOpening old (Ok started) × IsOpening new (Ok left) × (left.session ≡ started.session))

-- runs of the requested actions lead from one contents to the other; those in `done`, in order, take effect, and no others
pub data Runs : Contents → List Action → List Action → Contents → Type 0 where
  Ended : {k : Contents} → Runs k [] [] k
  Effective : {k next end : Contents} {action : Action} {requested done : List Action} → TakesEffect action k next → Runs next requested done end → Runs k (action ∷ requested) (action ∷ done) end
  Passed : {k next end : Contents} {action : Action} {requested done : List Action} → HasNoEffect k next → Runs next requested done end → Runs k (action ∷ requested) done end

-- the store is one undo away from the folder: a first store opens on it, creates, repairs and purges led on from there,
-- and all of them but the first are undone. Runs between them may have been refused, have failed, or have been stopped without effect
pub record IsOneUndoFrom (folder : Folder) (store : Contents) : Type 0 where
  pub first : Contents
  pub started : Started
  pub opens : IsOpening first (Ok started)
  pub on : started.session.folder ≡ folder
  pub requested : List Action
  pub done : List Action
  pub mid : Contents
  pub commands : Runs first requested done mid
  pub changing : AllByRecursion history.IsChanging done
  pub undone : ℕ
  pub left : length done ≡ undone + 1
  pub more : List Action
  pub undos : Runs mid more (replicate undone Undo) store

-- ---- what the runs of a store have in common

-- a store opens as one session only
abbrev pub OpensInOneWay : Type 0
OpensInOneWay = (contents : Contents) (a b : Started) → IsOpening contents (Ok a) → IsOpening contents (Ok b) → a ≡ b

-- runs on one store have the history of one session that does the actions that take effect. It refuses an action that a
-- run is refused, and after a run that takes effect no command is halfway
pub record KeepOneHistory : Type 0 where
  pub kept : (old new : Contents) (started : Started) (requested done : List Action) → IsOpening old (Ok started) → Runs old requested done new → (end : Started) × history.Execution (history_of started.session) done (length done) (history_of end.session) × IsOpening new (Ok end)
  pub refused : (old new : Contents) (started : Started) (action : Action) (refusal : history.Refusal) → IsOpening old (Ok started) → (opened : Started) × IsRefusedFor action old new refusal opened → history_after (history_of started.session) action ≡ Err refusal
  pub settled : (old new : Contents) (action : Action) → TakesEffect action old new → IsSettled new

-- after commands that took effect and as many undos, a store opens on the folder from before, with the same older ones. Its
-- files are those from before, if no command was halfway then or is now
pub record LeadBack : Type 0 where
  pub opens : (old mid new : Contents) (started : Started) (requested done more : List Action) → IsOpening old (Ok started) → Runs old requested done mid → AllByRecursion history.IsChanging done → Runs mid more (replicate (length done) Undo) new → (end : Started) × IsOpening new (Ok end) × (history.folders (history_of end.session) ≡ history.folders (history_of started.session))
  pub files : (old mid new : Contents) (requested done more : List Action) → IsSettled old → Runs old requested done mid → AllByRecursion history.IsChanging done → Runs mid more (replicate (length done) Undo) new → IsSettled new → new.files ≡ old.files

-- ---- what a run on an honest store achieves, by its words and the status that it returns

module _ {S : Type 0} (store : StoreOf S) (words : List (String Global)) (old new : S) (status : ℕ) where
  -- a repair. If its set was made from certain files and no checksum collides (`IsTrueTo`): status 0 leaves each of them, no
  -- rebuilt file has a wrong digest (never 5), and with too few slices (2) other ones, too, agree with what is found. After 2,
  -- for any set, the store is as it was opened
  pub record RepairsFiles : Type 0 where
    pub restored : (folder : Folder) (base : List ℕ) (extras : List (List ℕ)) (originals : List File) (s : ℕ) → AskForRepair (map string_bytes words) (store.contents old) folder base extras → IsTrueTo folder base extras originals s → status ≡ 0 → HasFiles originals (store.contents new).files
    pub right : (folder : Folder) (base : List ℕ) (extras : List (List ℕ)) (originals : List File) (s : ℕ) → AskForRepair (map string_bytes words) (store.contents old) folder base extras → IsTrueTo folder base extras originals s → status ≢ 5
    pub undetermined : (folder : Folder) (base : List ℕ) (extras : List (List ℕ)) (originals : List File) (s : ℕ) → AskForRepair (map string_bytes words) (store.contents old) folder base extras → (original : IsTrueTo folder base extras originals s) → status ≡ 2 → OthersAgree folder base extras originals s original
    pub unchanged : (folder : Folder) (base : List ℕ) (extras : List (List ℕ)) → AskForRepair (map string_bytes words) (store.contents old) folder base extras → status ≡ 2 → ((store.contents new).files ≡ folder) × OnlyTakesBack (store.contents old) (store.contents new)

  -- a repair after a create and later damage: status 0 leaves each input as it was, the set is readable (never 4), no rebuilt
  -- file has a wrong digest (never 5), and with too few slices (2) other ones, too, agree with all that is found
  pub record KeepsInputs : Type 0 where
    pub restored : (before damaged : Folder) (a : CreateArgs) (base : List ℕ) (extras : List (List ℕ)) → AskForRepair (map string_bytes words) (store.contents old) damaged base extras → FollowsCreate before damaged a base extras → status ≡ 0 → KeepsFiles a.inputs before (store.contents new).files
    pub right : (before damaged : Folder) (a : CreateArgs) (base : List ℕ) (extras : List (List ℕ)) → AskForRepair (map string_bytes words) (store.contents old) damaged base extras → FollowsCreate before damaged a base extras → (status ≢ 4) × (status ≢ 5)
    pub undetermined : (before damaged : Folder) (a : CreateArgs) (base : List ℕ) (extras : List (List ℕ)) → AskForRepair (map string_bytes words) (store.contents old) damaged base extras → FollowsCreate before damaged a base extras → status ≡ 2 → HaveAChoice before damaged a base extras

  -- an undo: status 0 leaves names and bytes as before the newest command; the last of as many as there were commands, as
  -- before all of them
  pub record LeadsBack : Type 0 where
    pub undone : (started : Started) → AskFor (map string_bytes words) Undo → IsOpening (store.contents old) (Ok started) → status ≡ 0 → (older : List Folder) × ((history_of started.session).older ≡ (store.contents new).files ∷ older)
    pub back : (folder : Folder) → AskFor (map string_bytes words) Undo → IsOneUndoFrom folder (store.contents old) → status ≡ 0 → (store.contents new).files ≡ folder

  -- any action: with status 0 it takes effect, and no command is halfway. If different folders on the way have different
  -- fingerprints, a run that is stopped anywhere takes effect or has none, and so does what a power cut leaves, if all was
  -- durable before. A verify makes no writing call unless a command is halfway
  pub record ActsAsAsked : Type 0 where
    pub done : (action : Action) → AskFor (map string_bytes words) action → status ≡ 0 → TakesEffect action (store.contents old) (store.contents new) × IsSettled (store.contents new)
    pub effect : (action : Action) → AskFor (map string_bytes words) action → FingerprintsDifferInRun action (store.contents old) → TakesEffect action (store.contents old) (store.contents new) ⊎ HasNoEffect (store.contents old) (store.contents new)
    pub cut : (action : Action) → ContentsAreDurable store old → AskFor (map string_bytes words) action → FingerprintsDifferInRun action (store.contents old) → (left : Contents) → store.crash_states new left → TakesEffect action (store.contents old) left ⊎ HasNoEffect (store.contents old) left
    pub unwritten : (base : List ℕ) (extras : List (List ℕ)) → AskFor (map string_bytes words) (Do (Verify base extras)) → ((session : Session) (back : List Change) → IsHalfway (store.contents old) session back → ⊥) → store.writing_calls new ≡ store.writing_calls old
