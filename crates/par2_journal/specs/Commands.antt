-- Results of commands, actions and openings, and their effects on a session.
use Rattle.std.specs.Prelude.{◌≡◌, ◌≢◌, ◌⊎◌, zero, suc, Bool, List, ℕ, [], map, String, Some, Ok, Err, Result, IfErr, IfOk, IsErrOf, IsTrue, OnErr, OnOk, MatchResult}
use Rattle.std.specs.declared.alloc.Global.{Global}
use Rattle.par2_spec.specs.Prelude.{bytes_eq, Change, FolderState, Action, Command, Do, Undo, Redo, Folder, fingerprint, FailsAs, RefusesEarly, AreFewFor, LeadsToAfterRequested, early_refusal_of, KeptSession, OnlyGrew, Session, session_of_kept, session_after, changes_requested, history_of, kept_undone, Step, step_of}
use Rattle.par2_spec.specs.History as history
use Rattle.par2_spec.specs.Opening as defined
pub use Rattle.par2_spec.specs.Prelude.{repair_of}
use Rattle.par2_spec.specs.declared.Fault.{Fault}
use Rattle.par2_spec.specs.declared.Fault.TheVariants as faults
use Rattle.par2_spec.specs.declared.JournalFault.{JournalFault}
use Rattle.par2_spec.specs.declared.JournalFault.TheVariants.{JournalInvalid, Memory}
use Rattle.par2_verify.specs.Findings.{words}
use Rattle.par2_repair.specs.Repairing.{WritesAsDescribed}
use Rattle.par2_journal_format.specs.Journals.{IsSealed, changes_in}
use Rattle.par2_journal_format.specs.Walking.{FailsTest}
use Rattle.par2_journal.specs.Sessions.{IsReady, next_of}
use Rattle.par2_journal.specs.declared.commands.Prepared.{Prepared}
use Rattle.par2_journal.specs.declared.commands.SessionFault.{SessionFault}
use Rattle.par2_journal.specs.declared.commands.SessionFault.TheVariants.{Plan, NothingToUndo, NothingToRedo}
use Rattle.par2_journal.specs.declared.opening.Next.{Next}
use Rattle.par2_journal.specs.declared.opening.Next.TheVariants as next
use Rattle.par2_journal.specs.declared.opening.Opened.{Opened}
use Rattle.par2_journal.specs.declared.opening.Opened.TheVariants as opening
use Rattle.par2_journal.specs.declared.taking_back.Halfway.{Halfway}

-- the history of a session
abbrev pub kept_history : KeptSession → history.History
kept_history s = history_of (session_of_kept s)

-- the refusal of the definitions for a session's fault
abbrev pub refusal_of : SessionFault → history.Refusal
refusal_of (Plan fault) = history.Refused fault
refusal_of NothingToUndo = history.NothingToUndo
refusal_of NothingToRedo = history.NothingToRedo

-- the fault of an undo or redo without an entry
abbrev pub nothing_for : Next → SessionFault
nothing_for next.Undo = NothingToUndo
nothing_for next.Redo = NothingToRedo

-- an action is refused for the cause that the definitions name, or because memory ran out
abbrev pub MayRefuse : Action → KeptSession → SessionFault → Type 0
MayRefuse action s fault = (fault ≡ Plan faults.Memory) ⊎ (changes_requested (session_of_kept s) action ≡ Err (refusal_of fault))

-- ---- prepared actions

-- a command is prepared or refused. Either way the session only gets more room
pub record MakesReady (command : Command) (old new : KeptSession) (result : Result Prepared Fault) : Type 0 where
  pub kept : OnlyGrew old new
  pub ready : IfOk result (λ prepared. IsReady (Do command) old prepared new)
  pub leads : OnOk result (LeadsToAfterRequested old.folder.files (Do command))
  pub refused : FailsAs old.folder.files command result
  pub early : RefusesEarly old.folder.files command result

-- an action is prepared or refused. Either way the session only gets more room
pub record Prepares (action : Action) (old new : KeptSession) (result : Result Prepared SessionFault) : Type 0 where
  pub kept : OnlyGrew old new
  pub ready : IfOk result (λ prepared. IsReady action old prepared new)
  pub leads : OnOk result (LeadsToAfterRequested old.folder.files action)
  pub refused : IfErr result (MayRefuse action old)
  -- a cause that is found before memory is taken is never reported as out of memory
  pub early : (fault : Fault) → early_refusal_of old.folder.files action ≡ Some fault → IsErrOf result (Plan fault)
  pub nothing_to_undo : action ≡ Undo → old.undos ≡ [] → IsErrOf result NothingToUndo
  pub nothing_to_redo : action ≡ Redo → old.redos ≡ [] → IsErrOf result NothingToRedo

-- ---- actions that are done at once

-- the new session is the old one after the action
abbrev pub IsAfter : Action → KeptSession → KeptSession → Type 0
IsAfter action old new = session_after (session_of_kept old) action ≡ Ok (session_of_kept new)

-- the changes of an action lead to the folder of the definitions
abbrev pub LeadsFrom : Action → KeptSession → Type 0
LeadsFrom action s = LeadsToAfterRequested s.folder.files action

-- a command is done or refused. A refusal leaves names, bytes and history as they were
pub record Performs (command : Command) (old new : KeptSession) (result : Result (List Step) Fault) : Type 0 where
  pub done : OnOk result (IsAfter (Do command) old new)
  -- its changes lead to the folder of the definitions, and these are their steps
  pub leads : OnOk result (LeadsToAfterRequested old.folder.files (Do command))
  pub steps : IfOk result (λ steps. IfOk (changes_requested (session_of_kept old) (Do command)) (λ changes. steps ≡ map step_of changes))
  pub unchanged : OnErr result (OnlyGrew old new)
  pub refused : FailsAs old.folder.files command result
  pub early : RefusesEarly old.folder.files command result

-- an accepted repair writes each file as its set describes it, whatever the folder's files hold. The folder has few
-- enough names to number the asides
pub record WritesFiles {A : Type 0} (base : List ℕ) (extras : List (String Global)) (purge : Bool) (old : KeptSession) (result : Result A Fault) : Type 0 where
  pub described : OnOk result (WritesAsDescribed old.folder.files base (words extras))
  pub few : OnOk result (AreFewFor old.folder.files (repair_of base extras purge))

-- this many undos, each as `undo` does it and none refused, lead from the one session to the other
abbrev pub AreUndone : ℕ → KeptSession → KeptSession → Type 0
AreUndone zero old new = new ≡ old
AreUndone (suc n) old new = (old.undos ≢ []) × AreUndone n (kept_undone old (next_of old.undos)) new

-- n undos give back the folder from before, names and bytes, and its older folders
pub record UndosGiveBack (n : ℕ) (before here : KeptSession) : Type 0 where
  pub back : KeptSession
  pub undone : AreUndone n here back
  pub folder : back.folder.files ≡ before.folder.files
  pub older : (kept_history back).older ≡ (kept_history before).older

-- ---- openings

-- whether the folder has this fingerprint
abbrev pub has_print : Folder → List ℕ → Bool
has_print folder print = bytes_eq (fingerprint folder) print

-- the session before the halfway command
abbrev pub session_before : Halfway → KeptSession
session_before halfway = halfway.session

-- the changes that take a halfway command back, in order
abbrev pub way_left : Halfway → List Change
way_left halfway = changes_in halfway.back.items

-- what the code opened, in the words of the definitions
abbrev pub opened_of : Opened → defined.Opened
opened_of (opening.Settled session) = defined.Settled (session_of_kept session)
opened_of (opening.Halfway halfway) = defined.Halfway (session_of_kept (session_before halfway)) (way_left halfway)

-- the result is the session that is wanted, if this test is passed; otherwise a fault, and the folder with the same
-- files
pub record AnswersTest (folder : FolderState) (test : Bool) (wanted : Session) (result : Result KeptSession (JournalFault × FolderState)) : Type 0 where
  pub passed : OnOk result (IsTrue test)
  pub session : IfOk result (λ session. session_of_kept session ≡ wanted)
  pub refused : IfErr result (λ e. FailsTest test e.0)
  pub files : IfErr result (λ e. e.1.files ≡ folder.files)

-- a fault other than an invalid journal or a lack of memory is reported only where this holds
abbrev pub IsReportedWhere : Type 0 → JournalFault → Type 0
IsReportedWhere holds fault = (fault ≡ JournalInvalid) ⊎ (fault ≡ Memory) ⊎ holds

-- where this holds, the result has this property or memory ran out. Elsewhere nothing opens, and the fault is an
-- invalid journal or a lack of memory
pub record AnswersWhere (holds : Type 0) (folder : Folder) (Answers : Result defined.Opened JournalFault → Type 0) (result : Result Opened (JournalFault × FolderState)) : Type 0 where
  pub opened : IfOk result (λ found. holds × Answers (Ok (opened_of found)))
  pub refused : IfErr result (λ e. holds → (e.0 ≡ Memory) ⊎ Answers (Err e.0))
  pub reported : IfErr result (λ e. IsReportedWhere holds e.0)
  pub files : IfErr result (λ e. e.1.files ≡ folder)

-- the result of opening a folder with these bytes as its journal
pub record AnswersOpening (folder : FolderState) (bytes : List ℕ) (result : Result Opened (JournalFault × FolderState)) : Type 0 where
  pub opened : IfOk result (λ found. defined.Opens folder.files bytes (Ok (opened_of found)))
  pub refused : IfErr result (λ e. (e.0 ≡ Memory) ⊎ defined.Opens folder.files bytes (Err e.0))
  pub unsealed : ¬ (IsSealed bytes) → MatchResult result (λ _. ⊥) (λ e. e.0 ≡ JournalInvalid)
  -- the folder is returned, names and bytes as they were
  pub files : IfErr result (λ e. e.1.files ≡ folder.files)
