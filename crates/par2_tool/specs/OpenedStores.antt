-- Opening a store: the session that it opens as and what that does to the store, or why it isn't opened. A command on an
-- opened store: its outcome, its refusals, and how its changes are written.
use Rattle.std.specs.Prelude.{◌≡◌, ◌⊎◌, ◌<◌, ◌≤◌, ◌+◌, ℕ, List, [], ◌∷◌, length, take, map, Option, Some, None, Result, Ok, Err, IfErr, IfOk, IsSomeAnd, IsTrue, OnErr, OnOk, IsErrOf, Vec, false, true}
use Rattle.std.specs.declared.alloc.Global.{Global}
use Rattle.par2_spec.specs.Prelude.{Bor, Change, are_applicable, effects, Action, Do, Verify, Undo, Redo, Folder, Spells, Started, OpensAs, Opens, Halfway, FingerprintsDiffer, settled_journal, Session, session_of_kept, KeptSession, OnlyGrew, changes_requested, session_after, Contents, with_change, with_journal, command_of, LeadsToAfterRequested, early_refusal_of, Report, report_in, Outcome, Reported, Done, step_of}
use Rattle.par2_spec.specs.declared.Failure.{Failure}
use Rattle.par2_spec.specs.declared.Failure.TheVariants as failure
use Rattle.par2_spec.specs.declared.Fault.{Fault}
use Rattle.par2_spec.specs.declared.Fault.TheVariants as reason
use Rattle.par2_spec.specs.declared.commands.Command.{Command}
use Rattle.par2_spec.specs.declared.JournalFault.{JournalFault}
use Rattle.par2_spec.specs.declared.JournalFault.TheVariants as journal
use Rattle.par2_spec.specs.declared.Version.TheVariants.{Two}
use Rattle.par2_disk.specs.Stores.{IsDurable}
use Rattle.par2_disk.specs.declared.store.Store.{Ghosts as StoreOf}
use Rattle.par2_disk.specs.declared.store.StoreFault.{StoreFault}
use Rattle.par2_files.specs.Folders.{change_of}
use Rattle.par2_files.specs.declared.change.Change as written
use Rattle.par2_verify.specs.ReportViews.{report_view}
use Rattle.par2_journal.specs.Commands.{IsAfter, LeadsFrom}
use Rattle.par2_journal.specs.SessionRefusals.{MayRefuse}
use Rattle.par2_journal.specs.declared.commands.SessionFault.{SessionFault}
use Rattle.par2_journal.specs.declared.commands.SessionFault.TheVariants.{Plan, NothingToUndo, NothingToRedo}
use Rattle.par2_journal.specs.declared.commands.Journals.{Journals}
use Rattle.par2_tool.specs.declared.opening.OpenFault.{OpenFault}
use Rattle.par2_tool.specs.declared.opening.OpenFault.TheVariants.{Store, Memory, JournalInvalid, FolderChanged}
use Rattle.par2_tool.specs.declared.opening.Started as program
use Rattle.par2_tool.specs.declared.performing.Outcome as performing
use Rattle.par2_tool.specs.declared.performing.Outcome.TheVariants as outcome
use Rattle.par2_tool.specs.declared.performing.PerformFault.{PerformFault}
use Rattle.par2_tool.specs.declared.performing.PerformFault.TheVariants as fault

-- ---- the contents of a store

-- a store with these contents opens as `answer`
abbrev pub IsOpening : Contents → Result Started JournalFault → Type 0
IsOpening contents answer = OpensAs contents.files contents.journal answer

-- the store's folder is the session's, and the store opens as the session
pub record Holds (contents : Contents) (started : Started) : Type 0 where
  pub files : contents.files ≡ started.session.folder
  pub opens : IsOpening contents (Ok started)

-- no command is halfway: the store's folder is that of the session that it opens as
abbrev pub IsSettled : Contents → Type 0
IsSettled contents = (started : Started) × Holds contents started

-- the session as an opened store: no history was dropped
abbrev pub with_history : Session → Started
with_history session = record { session = session; dropped = false }

-- the store holds the session, with the session's own journal, in version 2
pub record HoldsJournaled (session : Session) (contents : Contents) : Type 0 where
  pub holds : Holds contents (with_history session)
  pub bytes : List ℕ
  pub journal : contents.journal ≡ Some bytes
  pub spells : Spells bytes (settled_journal Two session)

-- the store opens as it did before
abbrev pub OpensAsBefore : Contents → Contents → Type 0
OpensAsBefore old new = (new ≡ old) ⊎ ((started : Started) × IsOpening old (Ok started) × IsOpening new (Ok started))

-- the contents after changes, made in order
abbrev pub with_all_changes : Contents → List Change → Contents
with_all_changes contents [] = contents
with_all_changes contents (change ∷ changes) = with_all_changes (with_change contents change) changes

-- some of the changes are made, in order from the first
abbrev pub AreSomeWritten : Contents → List Change → Contents → Type 0
AreSomeWritten old changes new = (n : ℕ) × (n ≤ length changes) × (new ≡ with_all_changes old (take n changes))

-- a power cut now leaves no other contents
abbrev pub ContentsAreDurable : {S : Type 0} → StoreOf S → S → Type 0
ContentsAreDurable store it = IsDurable (store.crash_states it) (store.contents it)

-- at most `calls` were made, by the count before and after
pub record AreAtMost (calls before after : ℕ) : Type 0 where
  pub later : before ≤ after
  pub within : after ≤ before + calls

-- ---- a command that was left halfway

-- a command is halfway, and these changes take it back to this session
pub record IsHalfway (contents : Contents) (session : Session) (back : List Change) : Type 0 where
  pub bytes : List ℕ
  pub journal : contents.journal ≡ Some bytes
  pub halfway : Opens contents.files bytes (Ok (Halfway session back))

-- different folders that a halfway command passes through while it is taken back have different fingerprints
abbrev pub FingerprintsDifferBack : Contents → Type 0
FingerprintsDifferBack contents = (session : Session) (back : List Change) → IsHalfway contents session back → FingerprintsDiffer contents.files back

-- it was taken back: the changes that lead back are made, and the journal is that of the session before it
abbrev pub IsTakenBack : Session → List Change → Contents → Contents → Type 0
IsTakenBack session back old new = (bytes : List ℕ) × Spells bytes (settled_journal Two session) × (new ≡ with_journal (with_all_changes old back) bytes)

-- a stop on the way back: some of the changes are made, or everything is done
abbrev pub IsStillHalfway : Session → List Change → Contents → Contents → Type 0
IsStillHalfway session back old new = AreSomeWritten old back new ⊎ IsTakenBack session back old new

-- nothing is done to the store, or its halfway command is taken back
abbrev pub OnlyTakesBack : Contents → Contents → Type 0
OnlyTakesBack old new = (new ≡ old) ⊎ ((session : Session) × (back : List Change) × IsHalfway old session back × IsTakenBack session back old new)

-- ---- an opened store

-- an opened store, in the terms of par2_spec
abbrev pub started_of : program.Started → Started
started_of started = record { session = session_of_kept started.session; dropped = started.dropped }

-- the contents are the files and the journal that were read
abbrev pub WasRead : Contents → Folder → Option (List ℕ) → Type 0
WasRead contents files journal = contents ≡ record { files = files; journal = journal }

-- a store was opened: it holds what it opens as, and nothing else was done to it
pub record IsOpened (old new : Contents) (started : Started) : Type 0 where
  pub opens : IsOpening old (Ok started)
  pub holds : Holds new started
  pub left : OnlyTakesBack old new

-- the result is what an honest store opens as
abbrev pub Starts : {S : Type 0} → StoreOf S → S → S → Result program.Started OpenFault → Type 0
Starts store old new result = IfOk result (λ started. IsOpened (store.contents old) (store.contents new) (started_of started))

-- the action is a verify
abbrev pub IsVerify : Action → Type 0
IsVerify (Do (Verify base extras)) = Unit {0}
IsVerify action = ⊥

-- the command, if there is one, is a verify
abbrev pub IsVerifyGiven : Option (Bor Command) → Type 0
IsVerifyGiven command = IsSomeAnd command (λ given. IsVerify (command_of given.now))

-- a command has the same outcome on both: they are equal, or it is a verify and their folders are equal
abbrev pub StandsFor : Type 0 → Started → Started → Type 0
StandsFor Verifies opened started = (opened ≡ started) ⊎ (Verifies × (opened.session.folder ≡ started.session.folder))

-- the result stands for what an honest store was opened as
abbrev pub OpensFor : {S : Type 0} → StoreOf S → S → S → Type 0 → program.Started → Type 0
OpensFor store old new Verifies started =
    (opened : Started) × StandsFor Verifies opened (started_of started) × (store.honest old → IsOpened (store.contents old) (store.contents new) opened)

-- ---- a store that isn't opened

-- why a store isn't opened, and what it holds then. FolderChanged: a command was left halfway in another folder
abbrev pub IsUnopened : Contents → Contents → OpenFault → Type 0
IsUnopened old new JournalInvalid = IsOpening old (Err journal.JournalInvalid) × (new ≡ old)
IsUnopened old new FolderChanged = IsOpening old (Err (journal.FolderChanged true)) × (new ≡ old)
IsUnopened old new Memory = new ≡ old
IsUnopened old new Store = Unit {0}

-- the fault of an opening whose journal is refused
abbrev pub refused_as : JournalFault → OpenFault
refused_as journal.JournalInvalid = JournalInvalid
refused_as (journal.FolderChanged halfway) = FolderChanged
refused_as journal.Memory = Memory

-- the failure that is reported of a store that can't be opened
abbrev pub unopened_as : OpenFault → Failure
unopened_as Store = failure.Store
unopened_as Memory = failure.Refused reason.Memory
unopened_as JournalInvalid = failure.JournalInvalid
unopened_as FolderChanged = failure.FolderChanged

-- a count before and after a failure: `failed` says it of a failure of the store, and any other one leaves it
abbrev pub IsCounted : (failed : Type 0) (before after : ℕ) → Failure → Type 0
IsCounted failed before after failure.Store = failed
IsCounted failed before after reason = after ≡ before

-- this number of writing calls is made, or at most that many if the store fails, and none after any other fault
pub record CountsCalls {T E : Type 0} (report : E → Failure) (calls before after : ℕ) (result : Result T E) : Type 0 where
  pub done : OnOk result (after ≡ before + calls)
  pub refused : IfErr result (λ fault. IsCounted (AreAtMost calls before after) before after (report fault))

-- the writing calls of an opening: none; or, to take a command back, one for each change and one for the journal
abbrev pub AreCallsToOpen : Contents → ℕ → Type 0
AreCallsToOpen contents calls = (calls ≡ 0) ⊎ ((session : Session) × (back : List Change) × IsHalfway contents session back × (calls ≡ length back + 1))

-- a call on any store: it stays honest, what was durable stays so, and only a failure of the store is counted
pub record KeepsStore {S T E : Type 0} (store : StoreOf S) (report : E → Failure) (old new : S) (result : Result T E) : Type 0 where
  pub honest : store.honest old → store.honest new
  pub kept : store.honest old → ContentsAreDurable store old → OnOk result (ContentsAreDurable store new)
  pub later : store.failures old ≤ store.failures new
  pub counted : IfErr result (λ fault. IsCounted (store.failures old < store.failures new) (store.failures old) (store.failures new) (report fault))
  pub steady : OnOk result (store.failures new ≡ store.failures old)

-- an opening of an honest store: why it fails, that a failure or a power cut leaves one that opens as before, its calls
pub record OpensStore {S T : Type 0} (store : StoreOf S) (old new : S) (result : Result T OpenFault) : Type 0 where
  pub refused : IfErr result (IsUnopened (store.contents old) (store.contents new))
  pub stopped : FingerprintsDifferBack (store.contents old) → OnErr result (OpensAsBefore (store.contents old) (store.contents new))
  pub cut : ContentsAreDurable store old → FingerprintsDifferBack (store.contents old) → (left : Contents) → store.crash_states new left → OpensAsBefore (store.contents old) left
  pub possible : store.impossible new ≡ store.impossible old
  pub calls : (calls : ℕ) × AreCallsToOpen (store.contents old) calls × CountsCalls unopened_as calls (store.writing_calls old) (store.writing_calls new) result

-- a halfway command is taken back in an honest store: its contents afterwards, after a failure, and after a power cut
pub record TakesWayBack {S T : Type 0} (store : StoreOf S) (old new : S) (session : Session) (back : List Change) (result : Result T OpenFault) : Type 0 where
  pub done : OnOk result (IsTakenBack session back (store.contents old) (store.contents new))
  pub stopped : OnErr result (IsStillHalfway session back (store.contents old) (store.contents new))
  pub remains : ContentsAreDurable store old → (left : Contents) → store.crash_states new left → IsStillHalfway session back (store.contents old) left
  pub refused : IfErr result (IsUnopened (store.contents old) (store.contents new))
  pub possible : IsTrue (are_applicable (store.contents old).files back) → store.impossible new ≡ store.impossible old
  pub calls : CountsCalls unopened_as (length back + 1) (store.writing_calls old) (store.writing_calls new) result

-- ---- what an action returns

-- the program's outcome, in the terms of par2_spec
abbrev pub outcome_of : performing.Outcome → Outcome
outcome_of (outcome.Report report) = Reported (report_view report)
outcome_of (outcome.Done steps) = Done steps

-- the outcome of an accepted action on a session: a verify's report on its folder, or the steps of the changes
abbrev pub IsAnswer : Session → Action → Outcome → Type 0
IsAnswer session (Do (Verify base extras)) outcome = (report : Report) × (report_in session.folder base extras ≡ Ok report) × (outcome ≡ Reported report)
IsAnswer session action outcome = (changes : List Change) × (changes_requested session action ≡ Ok changes) × (outcome ≡ Done (map step_of changes))

-- an action is accepted: the session becomes the one after it, its changes lead to its folder, and the outcome is its own
pub record IsPerformed (action : Action) (old new : KeptSession) (outcome : performing.Outcome) : Type 0 where
  pub after : IsAfter action old new
  pub leads : LeadsFrom action old
  pub answer : IsAnswer (session_of_kept old) action (outcome_of outcome)

-- the session refuses, for the cause that par2_spec names or for memory, and stays as it was; or the store failed
abbrev pub IsRefused : Action → KeptSession → KeptSession → PerformFault → Type 0
IsRefused action old new (fault.Session reason) = MayRefuse action old reason × OnlyGrew old new
IsRefused action old new fault.Store = Unit {0}

-- refusals that need no memory come before any is allocated
pub record RefusesAtOnce {T : Type 0} (action : Action) (session : KeptSession) (result : Result T PerformFault) : Type 0 where
  pub early : (reason : Fault) → early_refusal_of session.folder.files action ≡ Some reason → IsErrOf result (fault.Session (Plan reason))
  pub nothing_to_undo : action ≡ Undo → session.undos ≡ [] → IsErrOf result (fault.Session NothingToUndo)
  pub nothing_to_redo : action ≡ Redo → session.redos ≡ [] → IsErrOf result (fault.Session NothingToRedo)

-- the failure that is reported of a command
abbrev pub failure_for : PerformFault → Failure
failure_for (fault.Session (Plan reason)) = failure.Refused reason
failure_for (fault.Session NothingToUndo) = failure.NothingToUndo
failure_for (fault.Session NothingToRedo) = failure.NothingToRedo
failure_for fault.Store = failure.Store

-- the effect of an accepted action on the store: none for a verify; otherwise it holds the session afterwards
abbrev pub IsWritten : Action → Session → Contents → Contents → Type 0
IsWritten (Do (Verify base extras)) after old new = new ≡ old
IsWritten action after old new = HoldsJournaled after new

-- different folders that an action passes through have different fingerprints
abbrev pub FingerprintsDifferAlong : Session → Action → Type 0
FingerprintsDifferAlong session action = IfOk (changes_requested session action) (FingerprintsDiffer session.folder)

-- the store holds the session after the action, and the action's changes lead to its folder
pub record HoldsAfter (session : Session) (action : Action) (new : Contents) : Type 0 where
  pub after : Session
  pub accepted : session_after session action ≡ Ok after
  pub leads : LeadsToAfterRequested session.folder action
  pub holds : Holds new (with_history after)

-- nothing was done, or the store opens as the session before the action, or holds the one after it
abbrev pub OpensAsBeforeOrAfter : Session → Action → Contents → Contents → Type 0
OpensAsBeforeOrAfter session action old new = (new ≡ old) ⊎ (IsOpening new (Ok (with_history session)) ⊎ HoldsAfter session action new)

-- the calls for the requested changes: one for each, and one for each journal: two, or one if there are no changes
abbrev pub calls_unless : {F : Type 0} → Result (List Change) F → ℕ
calls_unless (Ok []) = 1
calls_unless (Ok changes) = length changes + 2
calls_unless (Err refusal) = 0

-- the calls of an action once the store is opened: none for a verify or a refused action
abbrev pub calls_requested : Session → Action → ℕ
calls_requested session (Do (Verify base extras)) = 0
calls_requested session action = calls_unless (changes_requested session action)

-- the store is honest, and its folder is the session's
pub record IsOn {S : Type 0} (store : StoreOf S) (it : S) (session : KeptSession) : Type 0 where
  pub honest : store.honest it
  pub files : (store.contents it).files ≡ session.folder.files

-- what a command does to the store: nothing if it is a verify or is refused; otherwise it holds the session afterwards. After
-- a failure or a power cut at any moment it opens as before or after, and a failure leaves a prefix of the changes
pub record ActsOn {S T : Type 0} (store : StoreOf S) (command : Command) (old new : S) (before after : KeptSession) (result : Result T PerformFault) : Type 0 where
  pub verify : IsVerify (command_of command) → (new ≡ old) × (after ≡ before)
  pub unchanged : (reason : SessionFault) → IsErrOf result (fault.Session reason) → new ≡ old
  pub written : IsOn store old before → OnOk result (IsWritten (command_of command) (session_of_kept after) (store.contents old) (store.contents new))
  pub stopped : IsOn store old before → FingerprintsDifferAlong (session_of_kept before) (command_of command) → OnErr result (OpensAsBeforeOrAfter (session_of_kept before) (command_of command) (store.contents old) (store.contents new))
  pub cut : IsOn store old before → ContentsAreDurable store old → FingerprintsDifferAlong (session_of_kept before) (command_of command) → (left : Contents) → store.crash_states new left → OpensAsBeforeOrAfter (session_of_kept before) (command_of command) (store.contents old) left
  pub in_order : store.honest old → OnErr result (IfOk (changes_requested (session_of_kept before) (command_of command)) (λ changes. (n : ℕ) × ((store.contents new).files ≡ effects (store.contents old).files (take n changes))))
  pub possible : IsOn store old before → store.impossible new ≡ store.impossible old
  pub calls : CountsCalls failure_for (calls_requested (session_of_kept before) (command_of command)) (store.writing_calls old) (store.writing_calls new) result

-- ---- how changes are written between two journals

-- `number` writing calls lead to these contents, and none is impossible if these changes apply. A failure or a power cut
-- leaves some contents in between
pub record WritesInOrder {S : Type 0} (store : StoreOf S) (old new : S) (after : Contents) (IsBetween : Contents → Type 0) (changes : List Change) (number : ℕ) (result : Result (Unit {0}) StoreFault) : Type 0 where
  pub keeps : KeepsStore store (λ _. failure.Store) old new result
  pub done : store.honest old → OnOk result (store.contents new ≡ after)
  pub stopped : store.honest old → OnErr result (IsBetween (store.contents new))
  pub remains : store.honest old → ContentsAreDurable store old → (left : Contents) → store.crash_states new left → IsBetween left
  pub possible : store.honest old → IsTrue (are_applicable (store.contents old).files changes) → store.impossible new ≡ store.impossible old
  pub calls : CountsCalls (λ _. failure.Store) number (store.writing_calls old) (store.writing_calls new) result

-- the contents with the journal that is put before the changes, if there is one
abbrev pub with_halfway_journal : Contents → Option (Vec ℕ Global) → Contents
with_halfway_journal contents None = contents
with_halfway_journal contents (Some bytes) = with_journal contents bytes.items

-- the contents once the changes are made and the journal of afterwards is put
abbrev pub after_write_down : Contents → Journals → List Change → Contents
after_write_down contents journals changes = with_journal (with_all_changes (with_halfway_journal contents journals.halfway) changes) journals.after.items

-- where writing can stop: before anything is done, after some of the changes, or with everything done
abbrev pub IsStoppedAt : Contents → Journals → List Change → Contents → Type 0
IsStoppedAt old journals changes new =
    (new ≡ old) ⊎ (AreSomeWritten (with_halfway_journal old journals.halfway) changes new ⊎ (new ≡ after_write_down old journals changes))

-- the number of calls that put the halfway journal: one if there is one
abbrev pub calls_before : Option (Vec ℕ Global) → ℕ
calls_before None = 0
calls_before (Some bytes) = 1

-- the halfway journal is put, if there is one
abbrev pub Begins : {S : Type 0} → StoreOf S → S → S → Option (Vec ℕ Global) → Result (Unit {0}) StoreFault → Type 0
Begins store old new halfway result =
    let contents = store.contents old in let after = with_halfway_journal contents halfway in
    WritesInOrder store old new after (λ left. (left ≡ contents) ⊎ (left ≡ after)) [] (calls_before halfway) result

-- the changes are made between the two journals
abbrev pub WritesDown : {S : Type 0} → StoreOf S → S → S → Journals → List written.Change → Result (Unit {0}) StoreFault → Type 0
WritesDown store old new journals changes result =
    let contents = store.contents old in let all = map change_of changes in
    WritesInOrder store old new (after_write_down contents journals all) (IsStoppedAt contents journals all) all (calls_before journals.halfway + (length changes + 1)) result
