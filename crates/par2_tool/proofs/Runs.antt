-- What the status of a run determines.
use Rattle.par2_tool.proofs.Common.{◌≡◌, ◌≢◌, ◌⊎◌, ℕ, false, arith, List, Option, status_of, status_of_fault, status_of_failure, Fault, Answered, Failed, RunResult, IsShown, Failure, NotRepairable, RepairFailed, may_refuse, Printer, inl, inr, ◌<◌, Bool, Some, Ok, Err, refl, sym, ap, subst, ◌∙◌, Action, Command, Do, Repair, Folder, Started, Contents, Outcome, Memory, IsOpening, with_history, IsOpened, OnlyTakesBack, FingerprintsDifferInRun, IsDone, IsFailed, IsUnread, AskFor, HasNoEffect, TakesEffect, AskForRepair, IsRunResult, IsStopped, Session, changes_requested, Refused, Store, JournalInvalid, FolderChanged, refusal, HoldsAfter, LeavesStopped, OpensInOneWay, ◌+◌, Verify, AreCallsToRun, CountsFailedRun, IsResult, Change, AreCallsToOpen, IsHalfway, [], PrinterTookAll, IsPrinted, append-nil, true, is_some, Appends, Appends-trans, Arguments, IsRepaired, is_repaired, ErrorKind, OutOfMemory, failure_of_kind, Text, takes, subcommand_of, par2_app, WordsFault}
use Rattle.par2_spec.specs.declared.Failure.TheVariants.{NothingToUndo, NothingToRedo}
use Rattle.par2_disk.specs.declared.store.Store.{Ghosts as StoreOf}
use Rattle.par2_spec.specs.History as history
use Rattle.par2_arguments.specs.declared.read.WordsFault.TheVariants as word

-- a fault's status is never 0; each of 2 and 5 has a single fault; and a repair of what a create left has no fault of
-- status 4
pub record Determines (fault : Fault) (status : ℕ) : Type 0 where
  pub failed : status ≢ 0
  pub few_left : status ≡ 2 → (missing rank : ℕ) × (fault ≡ NotRepairable missing rank)
  pub unread : status ≡ 4 → may_refuse fault ≡ false
  pub wrong : status ≡ 5 → fault ≡ RepairFailed

pub reported_of : (fault : Fault) → Determines fault (status_of_fault fault)
reported_of fault = unfold status_of_fault in grind arith

-- no failure has status 0
pub failure_is_reported : (reason : Failure) → status_of_failure reason ≢ 0
failure_is_reported reason e = unfold status_of_failure in grind arith

-- the status of what is reported
abbrev pub own_status : RunResult → ℕ
own_status (Answered dropped outcome) = status_of outcome
own_status (Failed spoken reason) = status_of_failure reason

-- a run ends with it, or with 6, where a writer failed
pub shown_status : {O E : Type 0} (reported : RunResult) (held : O → Option (List ℕ)) (out out_after : Printer O) (determines : E → Option (List ℕ)) (err err_after : Printer E) (status : ℕ)
    → IsShown reported held out out_after determines err err_after status → (status ≡ own_status reported) ⊎ (status ≡ 6)
shown_status reported held out out_after determines err err_after status shown = grind arith

-- What a run did to the store by its words and its status.

-- words request at most one action
pub one_action : (words : List (List ℕ)) (a b : Action) → AskFor words a → AskFor words b → a ≡ b
one_action words a b first second = Rattle.std.proofs.lemmas.Option.same_Some a b (sym first.requested ∙ second.requested)

-- an opened store opens as it did before
opened_alike : (old new : Contents) (started : Started) → IsOpened old new started → HasNoEffect old new
opened_alike old new started opened = inr (started, started, opened.opens, opened.holds.opens, refl)

module _ (old new : Contents) (action : Action) (apart : FingerprintsDifferInRun action old) where
  pub stopped_effect : IsStopped action old new → TakesEffect action old new ⊎ HasNoEffect old new
  stopped_effect stopped = at_stop (stopped apart)
    where
      at_stop : (new ≡ old) ⊎ ((started : Started) × IsOpening old (Ok started) × (IsOpening new (Ok started) ⊎ (IsOpening new (Ok (with_history started.session)) ⊎ HoldsAfter started.session action new)))
          → TakesEffect action old new ⊎ HasNoEffect old new
      at_stop (inl same) = inr (inl same)
      at_stop (inr (started, opens, inl again)) = inr (inr (started, started, opens, again, refl))
      at_stop (inr (started, opens, inr (inl again))) = inr (inr (started, with_history started.session, opens, again, refl))
      at_stop (inr (started, opens, inr (inr after))) = inl (inr (started, opens, after))

  failed_effect : (reason : Failure) → IsFailed action old new reason → TakesEffect action old new ⊎ HasNoEffect old new
  failed_effect (Refused fault) (inl (memory, inl same)) = inr (inl same)
  failed_effect (Refused fault) (inl (memory, inr (started, opened))) = inr (opened_alike old new started opened)
  failed_effect (Refused fault) (inr (started, (opened, requested))) = inr (opened_alike old new started opened)
  failed_effect NothingToUndo (session, (opened, requested)) = inr (opened_alike old new (with_history session) opened)
  failed_effect NothingToRedo (session, (opened, requested)) = inr (opened_alike old new (with_history session) opened)
  failed_effect Store stopped = stopped_effect stopped
  failed_effect Arguments failed = absurd failed
  failed_effect JournalInvalid failed = inr (inl failed.1)
  failed_effect FolderChanged (inl failed) = inr (inl failed.1)
  failed_effect FolderChanged (inr failed) = inr (opened_alike old new failed.1 failed.2)

module _ (words : List (List ℕ)) (action : Action) (old new : Contents) where
  -- what a run of the action with this result leaves on an honest store
  abbrev pub Leaves : RunResult → Type 0
  Leaves (Answered dropped outcome) = IsDone action old new dropped outcome
  Leaves (Failed spoken reason) = (IsUnread words reason × (new ≡ old)) ⊎ IsFailed action old new reason

  -- each run takes effect or has none
  pub effect_of : (result : RunResult) → Leaves result → FingerprintsDifferInRun action old → TakesEffect action old new ⊎ HasNoEffect old new
  effect_of result leaves apart = grind (arith, failed_effect)

  -- with status 0 the action is accepted
  pub accepted_with_zero : (result : RunResult) (status : ℕ) → (status ≡ own_status result) ⊎ (status ≡ 6) → Leaves result → status ≡ 0
      → (dropped : Bool) × (outcome : Outcome) × IsDone action old new dropped outcome
  accepted_with_zero result status is leaves zero = grind (arith, failure_is_reported)

pub leaves_of : {S : Type 0} (store : StoreOf S) (words : List (List ℕ)) (action : Action) (old new : S) → AskFor words action → (result : RunResult) → IsRunResult store words old new result → store.honest old
    → Leaves words action (store.contents old) (store.contents new) result
leaves_of store words action old new requested (Answered dropped outcome) (inl (other, also, is, cut)) honest =
    subst (λ a. IsDone a (store.contents old) (store.contents new) dropped outcome) (one_action words other action also requested) (is.2 honest).0
leaves_of store words action old new requested (Answered dropped outcome) (inr (reason, never, unread, same)) honest = absurd (let no : ⊥ = cc never in no)
leaves_of store words action old new requested (Failed spoken reason) (inl (other, also, is, cut)) honest =
    inr (subst (λ a. IsFailed a (store.contents old) (store.contents new) reason) (one_action words other action also requested) (is.3 honest).0)
leaves_of store words action old new requested (Failed spoken reason) (inr (why, is, unread, same)) honest =
    let alike : why ≡ reason = cc is in inl (subst (IsUnread words) alike unread, ap store.contents same)

-- what a power cut leaves
pub cut_of : {S : Type 0} (store : StoreOf S) (words : List (List ℕ)) (action : Action) (old new : S) → AskFor words action → (result : RunResult) → IsRunResult store words old new result → LeavesStopped store action old new
cut_of store words action old new requested result (inl (other, also, is, cut)) = subst (λ a. LeavesStopped store a old new) (one_action words other action also requested) cut
cut_of store words action old new requested result (inr (reason, is, unread, same)) = λ honest durable left may apart. inl (durable left (subst (λ s. store.crash_states s left) same may))

-- why the session refuses it
session_refuses : (session : Session) (command : Command) (fault : Fault) → changes_requested session (Do command) ≡ Err (history.Refused fault) → refusal session.folder command ≡ Some fault
session_refuses session command fault e = unfold changes_requested in grind arith

-- what a refused repair reports and leaves
pub record IsRefused (folder : Folder) (old new : Contents) (command : Command) (status : ℕ) : Type 0 where
  pub fault : Fault
  pub reported : status_of_fault fault ≡ status
  pub refused : refusal folder command ≡ Some fault
  pub files : new.files ≡ folder
  pub left : OnlyTakesBack old new

module _ (one : OpensInOneWay) (words : List (List ℕ)) (old new : Contents) (folder : Folder) (base : List ℕ) (extras : List (List ℕ)) (asks : AskForRepair words old folder base extras) where
  abbrev pub command : Command
  command = Repair base extras asks.purge

  -- an accepted repair
  pub repaired : (result : RunResult) (status : ℕ) → (status ≡ own_status result) ⊎ (status ≡ 6) → Leaves words (Do command) old new result → status ≡ 0 → IsRepaired folder new.files command
  repaired result status is leaves zero =
      let done = (accepted_with_zero words (Do command) old new result status is leaves zero).2 in
      let same : done.session.folder ≡ folder = ap (λ (x : Started). x.session.folder) (one old _ asks.started done.opened.opens asks.opens) ∙ asks.on in
      let left = is_repaired done.session done.after base extras asks.purge done.accepted done.leads in
      subst (λ f. IsRepaired f new.files command) same (subst (λ f. IsRepaired done.session.folder f command) (sym done.written.holds.files) left)

  refused_on : (fault : Fault) (status : ℕ) → status_of_fault fault ≡ status → (started : Started) → IsOpened old new started → changes_requested started.session (Do command) ≡ Err (history.Refused fault) → IsRefused folder old new command status
  refused_on fault status reported started opened refused =
      let same : started.session.folder ≡ folder = ap (λ (x : Started). x.session.folder) (one old started asks.started opened.opens asks.opens) ∙ asks.on in
      record {
        fault = fault;
        reported = reported;
        refused = subst (λ f. refusal f command ≡ Some fault) same (session_refuses started.session command fault refused);
        files = opened.holds.files ∙ same;
        left = opened.left;
      }

  -- memory has another status
  not_memory : (fault : Fault) (status : ℕ) → status ≡ status_of_failure (Refused fault) → status < 6 → fault ≡ Memory → ⊥
  not_memory fault status own low memory = unfold status_of_failure in let eight : status ≡ 8 = own ∙ ap status_of_fault memory in omega (arith, eight, low)

  refused_by : (reason : Failure) (status : ℕ) → status ≡ status_of_failure reason → status < 6 → status ≢ 3
      → (IsUnread words reason ⊎ IsFailed (Do command) old new reason) → IsRefused folder old new command status
  unfolding status_of_failure
  refused_by (Refused fault) status own low three (inl (inl arguments)) = let no : ⊥ = cc arguments.0 in absurd no
  refused_by (Refused fault) status own low three (inl (inr memory)) = let is : fault ≡ Memory = cc in absurd (not_memory fault status own low is)
  refused_by (Refused fault) status own low three (inr (inl memory)) = absurd (not_memory fault status own low memory.0)
  refused_by (Refused fault) status own low three (inr (inr (started, (opened, refused)))) = refused_on fault status (sym own) started opened refused
  refused_by Arguments status own low three why = absurd (three own)
  refused_by reason status own low three why = absurd (omega (arith, own, low))

  -- a result that isn't accepted ends with the status of its refusal, or with 3, or with 6 and above
  pub repair_refused : (result : RunResult) (status : ℕ) → (status ≡ own_status result) ⊎ (status ≡ 6) → Leaves words (Do command) old new result → status ≢ 0 → status ≢ 3 → status < 6 → IsRefused folder old new command status
  unfolding status_of
  repair_refused result status (inr six) leaves zero three low = absurd (omega (arith, six, low))
  repair_refused (Answered dropped outcome) status (inl own) done zero three low = absurd (zero (own ∙ ap status_of done.answer.2))
  repair_refused (Failed spoken reason) status (inl own) (inl unread) zero three low = refused_by reason status own low three (inl unread.0)
  repair_refused (Failed spoken reason) status (inl own) (inr failed) zero three low = refused_by reason status own low three (inr failed)

-- How many writing calls a run made.

module _ {S : Type 0} (store : StoreOf S) (words : List (List ℕ)) (old new : S) (base : List ℕ) (extras : List (List ℕ)) (none : (session : Session) (back : List Change) → IsHalfway (store.contents old) session back → ⊥) where
  abbrev pub verify : Action
  verify = Do (Verify base extras)

  opened_by : (calls : ℕ) → AreCallsToOpen (store.contents old) calls → calls ≡ 0
  opened_by calls (inl zero) = zero
  opened_by calls (inr (session, back, halfway, sum)) = absurd (none session back halfway)

  run_by : (calls : ℕ) → AreCallsToRun verify (store.contents old) calls → calls ≡ 0
  run_by calls run = let zero = opened_by run.0 run.1 in let sum : calls ≡ run.0 + 0 = run.4 in omega (arith, zero, sum)

  failed_by : (reason : Failure) → CountsFailedRun verify (store.contents old) (store.writing_calls old) (store.writing_calls new) reason → store.writing_calls new ≡ store.writing_calls old
  failed_by Store (calls, inl opens, most) = let zero = opened_by calls opens in omega (arith, zero, most.later, most.within)
  failed_by Store (calls, inr run, most) = let zero = run_by calls run in omega (arith, zero, most.later, most.within)
  failed_by reason (calls, opens, sum) = let zero = opened_by calls opens in omega (arith, zero, sum)

  result_by : (result : RunResult) → store.honest old → IsResult store verify old new result → store.writing_calls new ≡ store.writing_calls old
  result_by (Answered dropped outcome) honest is = let done = is.2 honest in let zero = run_by done.1 done.2 in omega (arith, zero, done.3)
  result_by (Failed spoken reason) honest is = failed_by reason (is.3 honest).1

  -- a verify makes none where no command is halfway
  pub verify_makes_none : AskFor words verify → (result : RunResult) → store.honest old → IsRunResult store words old new result → store.writing_calls new ≡ store.writing_calls old
  verify_makes_none requested result honest (inl (action, also, is, cut)) = result_by result honest (subst (λ a. IsResult store a old new result) (one_action words action verify also requested) is)
  verify_makes_none requested result honest (inr (reason, is, unread, same)) = ap store.writing_calls same

-- Bytes that were written and flushed.

module _ {W : Type 0} (held : W → Option (List ℕ)) (a b c : Printer W) (bytes : List ℕ) (all : PrinterTookAll held a b bytes) where
  whole : Appends (held b.writer) (held c.writer) [] → Appends (held a.writer) (held c.writer) bytes
  whole kept =
      subst (Appends (held a.writer) (held c.writer)) (append-nil bytes) (Appends-trans (held a.writer) (held b.writer) (held c.writer) bytes [] all.0 kept)

  pub printed : (own status : ℕ) → IsPrinted held b c [] own status → IsPrinted held a c bytes own status
  printed own status p = grind (arith, whole)

-- Words that aren't read.

is_memory : WordsFault → Bool
is_memory word.Arguments = false
is_memory word.Memory = true

-- a valid command line is refused only if memory runs out
pub unread_words : (words : List Text) (e : WordsFault) (f : Failure) → (e ≡ word.Arguments → f ≡ Arguments) × (e ≡ word.Memory → f ≡ Refused Memory)
    → (takes par2_app words ≡ true → is_some (subcommand_of par2_app words) ≡ true → e ≡ word.Memory) → IsUnread words f
unread_words words e f is memory = unfold is_memory in grind arith

-- the failure for an error of this kind
pub memory_kind : (kind : ErrorKind) → kind ≡ OutOfMemory → failure_of_kind kind ≡ Refused Memory
unfolding failure_of_kind
memory_kind kind is = ap failure_of_kind is

pub other_kind : (kind : ErrorKind) → (kind ≡ OutOfMemory → ⊥) → failure_of_kind kind ≡ Arguments
unfolding failure_of_kind
other_kind OutOfMemory other = absurd (other refl)
other_kind _ other = refl
