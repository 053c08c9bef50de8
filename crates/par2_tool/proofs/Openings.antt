-- Changes that were made in order in a store.
use Rattle.par2_tool.proofs.Common.{◌≡◌, ◌<◌, ◌+◌, ℕ, zero, suc, List, [], ◌∷◌, ◌++◌, length, map, get_or, take, IsTrue, refl, sym, ap, subst, ◌∙◌, arith, ◌⊎◌, inl, inr, map_more, length-map, take_all, take-map, and_parts, Contents, with_change, with_journal, change_of, KeptSession, OnlyGrew, Kind, changes_by_kind, with_all_changes, AreSomeWritten, with_halfway_journal, IsStoppedAt, Journals, true, Option, Some, None, Result, Ok, Err, Vec, option_map, OnErr, OnOk, on_ok_weaker, IfErr, IfOk, IsErr, started_of, unopened_as, IsOpened, WasRead, IsStillHalfway, IsTakenBack, IsCounted, Holds, IsOpening, OpensAsBefore, FingerprintsDifferBack, with_history, KeepsStore, AreCallsToOpen, CountsCalls, IsHalfway, IsUnopened, OpensStore, refused_as, Global, Folder, Change, are_applicable, effects, Session, Journal, Spells, Opened, Settled, Halfway, Started, is_valid, new_session, settled_journal, started, FingerprintsDiffer, Opens, OpensAs, opened, JournalFault, Two, settled_stored, still_stored, taken_back_leads, OpenFault, by_either, ◌≢◌, ◌≤◌, takes_all, Action, LeadsToAfterRequested, halfway_where, CanWalk, session_of_kept, changes_requested, kept_done, kept_undone, kept_redone, done_can_walk, undone_can_walk, redone_can_walk, grown_can_walk, walked_is_valid, same_session, halfway_stored, Changing, Moving, Next, Prepared, CanBe, IsReady, entries_for, moved, after_commit, next_of, SpellsWhere, SpellsReady, HoldsJournaled, after_write_down, FingerprintsDifferAlong, OpensAsBeforeOrAfter, Do, Verify, action_of, Plan, NothingToUndo, NothingToRedo, AreAtMost, StandsFor, IsVerify, AreCallsToRun, CountsFailedRun, calls_requested, calls_unless, failure_for, calls_before, PerformFault, SessionFault, Bool, false, leads, history_of, session_unless, session_after, accepted_next, refused_alike, same_ok, ok_no_err, IsSettled, IsWritten, IsRefusedFor, HasNoEffect, Runs, Effective, TakesEffect, OpensInOneWay, KeepOneHistory, Refusal, Execution, history_after, drop, replicate, Undo, AllByRecursion, length-replicate, History, Ended, Accepted, Passed, IsChanging, folders, replicate_more, LeadBack, IsOneUndoFrom, changes_of, set_in, refusal, Report, report_in, changes_unless, Fault, Memory, MayRefuse, report_of, false≢true, Command, IsAnswer, IsRefused, IsBack, IsCause, IsFailed, IsStopped, IsDone, Outcome, output_of, OnlyReads, state_files, taken_are_applicable, one_fewer, candidates, ParSet, ◌>>=◌, fault_of}
use Rattle.par2_disk.specs.declared.store.Store.{Ghosts as StoreOf}
use Rattle.par2_files.specs.declared.change.Change.{Change as WrittenChange}
use Rattle.par2_tool.specs.declared.performing.PerformFault.TheVariants.{Session as Refusing, Store}
use Rattle.par2_spec.specs.declared.JournalFault.TheVariants.{FolderChanged}
use Rattle.par2_spec.specs.Changes as defined
use Rattle.par2_spec.specs.declared.JournalFault.TheVariants as fault
use Rattle.par2_tool.specs.declared.opening.Started as program
use Rattle.par2_journal.specs.declared.opening.Next.TheVariants as next
use Rattle.par2_spec.specs.declared.commands.Action as requested
use Rattle.par2_spec.specs.History as history
use Rattle.par2_tool.specs.Runs as runs
use Rattle.par2_tool.specs.declared.opening.OpenFault.TheVariants as unopened
use Rattle.par2_spec.specs.declared.commands.Action.{Action as RequestedAction}

changed_more : (k : Contents) (cs : List defined.Change) (c : defined.Change) → with_all_changes k (cs ++ c ∷ []) ≡ with_change (with_all_changes k cs) c
changed_more k [] c = refl
changed_more k (d ∷ cs) c = changed_more (with_change k d) cs c

-- changes that are made in order change only the folder
pub all_changed_is : (k : Contents) (cs : List defined.Change) → with_all_changes k cs ≡ record { files = defined.effects k.files cs; journal = k.journal }
unfolding defined.effects
all_changed_is k [] = refl
all_changed_is k (c ∷ cs) = all_changed_is (with_change k c) cs

pub made_next : (k : Contents) (changes : List WrittenChange) (i : ℕ) (item : WrittenChange) → i < length changes → item ≡ get_or changes i item
    → with_change (with_all_changes k (map change_of (take i changes))) (change_of item) ≡ with_all_changes k (map change_of (take (i + 1) changes))
made_next k changes i item within is =
    sym (changed_more k (map change_of (take i changes)) (change_of item))
    ∙ ap (λ x. with_all_changes k (map change_of (take i changes) ++ change_of x ∷ [])) is
    ∙ ap (with_all_changes k) (sym (map_more change_of changes i item within))

-- if changes apply in order, each applies after those before it
applicable_next : (k : Contents) (changes : List WrittenChange) (i : ℕ) (item : WrittenChange) → i < length changes → item ≡ get_or changes i item → IsTrue (defined.are_applicable k.files (map change_of changes))
    → IsTrue (defined.is_applicable (with_all_changes k (map change_of (take i changes))).files (change_of item))
unfolding defined.are_applicable
applicable_next k [] i item within is all = absurd (omega (arith, within))
applicable_next k (c ∷ cs) i item within is all = grind (arith, and_parts, applicable_next (with_change k (change_of c)) cs)

-- it also applies to the store in which they were made
pub applicable_here : (k now : Contents) (changes : List WrittenChange) (i : ℕ) (item : WrittenChange) → now ≡ with_all_changes k (map change_of (take i changes)) → i < length changes → item ≡ get_or changes i item
    → IsTrue (defined.are_applicable k.files (map change_of changes)) → IsTrue (defined.is_applicable now.files (change_of item))
applicable_here k now changes i item made within is all = grind (arith, applicable_next)

-- what was prepared applies the requested changes
pub same_changes : (old mid : KeptSession) (kind : Kind) → OnlyGrew old mid → changes_by_kind kind old ≡ changes_by_kind kind mid
same_changes old mid kind grew = grind arith

-- the first ones were made, and the next one was or wasn't
pub next_remains : (start now left : Contents) (changes : List WrittenChange) (i : ℕ) (item : WrittenChange) → i < length changes → item ≡ get_or changes i item → now ≡ with_all_changes start (map change_of (take i changes))
    → (left ≡ now) ⊎ (left ≡ with_change now (change_of item)) → AreSomeWritten start (map change_of changes) left
next_remains start now left changes i item within at made (inl none) =
    (i, omega (arith, within, length-map changes change_of), none ∙ made ∙ ap (with_all_changes start) (sym (take-map change_of i changes)))
next_remains start now left changes i item within at made (inr one) = (
  i + 1,
  omega (arith, within, length-map changes change_of),
  one
      ∙ ap (λ (k : Contents). with_change k (change_of item)) made
      ∙ made_next start changes i item within at
      ∙ ap (with_all_changes start) (sym (take-map change_of (i + 1) changes)),
)

module _ (old : Contents) (journals : Journals) where
  -- when the halfway journal was put
  pub begun_remains : (cs : List defined.Change) (left : Contents) → (left ≡ old) ⊎ (left ≡ with_halfway_journal old journals.halfway) → IsStoppedAt old journals cs left
  begun_remains cs left h = grind arith

  -- when the changes were made, or some of them
  pub some_crash_states : (cs : List defined.Change) (mid left : Contents) → mid ≡ with_halfway_journal old journals.halfway → AreSomeWritten mid cs left → IsStoppedAt old journals cs left
  some_crash_states cs mid left begun some = inr (inl (some.0, some.1, some.2 ∙ ap (λ k. with_all_changes k (take some.0 cs)) begun))

  -- when the journal of afterwards was put
  pub ended_remains : (cs : List defined.Change) (mid done left : Contents) → mid ≡ with_halfway_journal old journals.halfway → done ≡ with_all_changes mid cs → (left ≡ done) ⊎ (left ≡ with_journal done journals.after.items)
      → IsStoppedAt old journals cs left
  ended_remains cs mid done left begun made h = grind (arith, take_all)

-- What a store opens as, and what a stop leaves of it.

-- settled bytes open as a session on the folder itself, whose entries lead
pub settled_on : (folder : Folder) (bytes : List ℕ) (s : Session) → Opens folder bytes (Ok (Settled s)) → (s.folder ≡ folder) × (is_valid s ≡ true)
settled_on folder bytes s h = unfold Opens in grind arith

-- the journal of a command that is to be taken back
pub halfway_by : (folder : Folder) (bytes : List ℕ) (s : Session) (back : List Change) → Opens folder bytes (Ok (Halfway s back)) → (j : Journal) × Spells bytes j × (opened folder j ≡ Ok (Halfway s back))
halfway_by folder bytes s back h = unfold Opens in grind arith

-- the bytes of the journal that was read
pub bytes_read : (contents : Contents) (files : Folder) (journal : Option (Vec ℕ Global)) (content : Vec ℕ Global) (bytes : List ℕ) → WasRead contents files (option_map (λ bytes. bytes.items) journal) → journal ≡ Some content → bytes ≡ content.items
    → WasRead contents files (Some bytes)
bytes_read contents files journal content bytes read some is = grind arith

-- the store's command is halfway if what was read says so
pub is_halfway : (contents : Contents) (files : Folder) (bytes : List ℕ) (s : Session) (back : List Change) → WasRead contents files (Some bytes) → Opens files bytes (Ok (Halfway s back)) → IsHalfway contents s back
is_halfway contents files bytes s back read opens = record {
  bytes = bytes;
  journal = ap (λ (k : Contents). k.journal) read;
  halfway = subst (λ f. Opens f bytes (Ok (Halfway s back))) (sym (ap (λ (k : Contents). k.files) read)) opens;
}

-- what is read opens as its journal does
pub opens_read : (contents : Contents) (files : Folder) (bytes : List ℕ) (o : Result Opened JournalFault) (answer : Result Started JournalFault) → WasRead contents files (Some bytes) → Opens files bytes o → answer ≡ started files o → IsOpening contents answer
opens_read contents files bytes o answer read opens is = unfold OpensAs in subst (λ k. IsOpening k answer) (sym read) (o, opens, is)

-- a store that is left alone and opens on its own folder is opened
pub opened_on : (contents : Contents) (started : Started) → IsOpening contents (Ok started) → contents.files ≡ started.session.folder → IsOpened contents contents started
opened_on contents started opens files = record { opens = opens; holds = record { files = files; opens = opens }; left = inl refl }

-- a store whose journal is refused is opened as a new session, or isn't opened and is left alone
module _ (contents : Contents) (files : Folder) (bytes : List ℕ) (e : JournalFault) (r : Result program.Started OpenFault) (on : Folder) (same : on ≡ files)
    (opens : IfOk r (λ s. started on (Err e) ≡ Ok (started_of s))) (unopened : IsErr r → started on (Err e) ≡ Err e) (refuses : IfErr r (λ refused. refused ≡ refused_as e)) where
  pub opens_without : WasRead contents files (Some bytes) → (e ≡ fault.Memory) ⊎ Opens files bytes (Err e) → IfOk r (λ s. IsOpened contents contents (started_of s))
  opens_without read refused = grind (arith, opens_read, opened_on)

  pub unopened_without : WasRead contents files (Some bytes) → (e ≡ fault.Memory) ⊎ Opens files bytes (Err e) → IfErr r (IsUnopened contents contents)
  unopened_without read refused = grind (arith, opens_read)

  pub counted_without : (n : ℕ) → IfErr r (λ refused. IsCounted (n < n) n n (unopened_as refused))
  counted_without n = grind arith

-- without a journal a store opens as a new session
pub opens_new : (contents : Contents) (s : Session) → contents.journal ≡ None → s ≡ new_session contents.files → IsOpening contents (Ok (with_history s))
opens_new contents s none is = unfold OpensAs in subst (λ j. OpensAs contents.files j (Ok (with_history s))) (sym none) (ap (λ t. Ok (with_history t)) is)

-- if no command is halfway, the store that was read holds the session
pub holds_settled : (contents : Contents) (files : Folder) (bytes : List ℕ) (s : Session) → WasRead contents files (Some bytes) → Opens files bytes (Ok (Settled s)) → Holds contents (with_history s)
holds_settled contents files bytes s read opens = grind (arith, settled_on, opens_read)

-- the store holds the session once the changes are made and its journal is put
holds_taken_back : (old new : Contents) (files : Folder) (bytes : List ℕ) (s : Session) (back : List Change) → WasRead old files (Some bytes) → Opens files bytes (Ok (Halfway s back)) → IsTakenBack s back old new → Holds new (with_history s)
holds_taken_back old new files bytes s back read opens done =
    let by = halfway_by files bytes s back opens in
    let leads = taken_back_leads by.0 files s back by.2 in
    let home : effects old.files back ≡ s.folder = ap (λ (k : Contents). effects k.files back) read ∙ leads.1 in
    let is : new ≡ record { files = s.folder; journal = Some done.0 } =
    done.2 ∙ ap (λ k. with_journal k done.0) (all_changed_is old back) ∙ ap (λ f. record { files = f; journal = Some done.0 }) home in
    subst (λ k. Holds k (with_history s)) (sym is) (record { files = refl; opens = settled_stored Two s done.0 leads.2 done.1 })

-- then the store is opened
pub opened_taken_back : (old new : Contents) (files : Folder) (bytes : List ℕ) (s : Session) (back : List Change) → WasRead old files (Some bytes) → Opens files bytes (Ok (Halfway s back)) → IsTakenBack s back old new → IsOpened old new (with_history s)
opened_taken_back old new files bytes s back read opens done = record {
  opens = opens_read old files bytes (Ok (Halfway s back)) (Ok (with_history s)) read opens refl;
  holds = holds_taken_back old new files bytes s back read opens done;
  left = inr (s, back, is_halfway old files bytes s back read opens, done);
}

-- the changes of the way back apply in order
pub way_applies : (contents : Contents) (files : Folder) (bytes : List ℕ) (s : Session) (back : List Change) → WasRead contents files (Some bytes) → Opens files bytes (Ok (Halfway s back)) → IsTrue (are_applicable contents.files back)
way_applies contents files bytes s back read opens =
    let by = halfway_by files bytes s back opens in
    subst (λ (f : Folder). IsTrue (are_applicable f back)) (sym (ap (λ (k : Contents). k.files) read)) (taken_back_leads by.0 files s back by.2).0

-- wherever that stops, the store opens as it did before
pub opens_still : (old new : Contents) (files : Folder) (bytes : List ℕ) (s : Session) (back : List Change) → WasRead old files (Some bytes) → Opens files bytes (Ok (Halfway s back)) → FingerprintsDifferBack old → IsStillHalfway s back old new → OpensAsBefore old new
opens_still old new files bytes s back read opens apart stop = inr (with_history s, opens_read old files bytes (Ok (Halfway s back)) (Ok (with_history s)) read opens refl, by_stop stop)
  where
    by_stop : IsStillHalfway s back old new → IsOpening new (Ok (with_history s))
    by_stop (inr done) = (holds_taken_back old new files bytes s back read opens done).opens
    by_stop (inl some) =
        let n = some.0 in
        let by = halfway_by files bytes s back opens in
        let apart_from : FingerprintsDiffer files back =
        subst (λ f. FingerprintsDiffer f back) (ap (λ (k : Contents). k.files) read) (apart s back (is_halfway old files bytes s back read opens)) in
        let is : new ≡ record { files = effects files (take n back); journal = Some bytes } =
        some.2 ∙ all_changed_is old (take n back) ∙ ap (λ (k : Contents). record { files = effects k.files (take n back); journal = k.journal }) read in
        subst (λ k. IsOpening k (Ok (with_history s))) (sym is) (still_stored by.0 files s back n bytes by.1 by.2 apart_from some.1)

-- a stop on the way back: before the changes, after some of them, or with everything done
pub still_halfway : (old new : Contents) (s : Session) (back : List Change) (after : Vec ℕ Global) → Spells after.items (settled_journal Two s) → IsStoppedAt old (record { halfway = None; after = after }) back new → IsStillHalfway s back old new
still_halfway old new s back after spells h = grind arith

-- what holds in any case holds after a refusal, and after a success
pub any_err : {T E : Type 0} (r : Result T E) (P : Type 0) → P → OnErr r P
any_err r P p = grind arith

pub any_ok : {T E : Type 0} (r : Result T E) (P : Type 0) → P → OnOk r P
any_ok r P p = grind arith

module _ {S T : Type 0} (store : StoreOf S) where
  -- whatever a power cut leaves of one that was only read is what was there
  pub reads_opens : (old new : S) (r : Result T OpenFault) → OnlyReads store old new → store.honest old → store.impossible new ≡ store.impossible old → IfErr r (IsUnopened (store.contents old) (store.contents new)) → OpensStore store old new r
  reads_opens old new r reads honest possible refused = grind arith

  -- nothing was done at all
  pub stays_opens : (it : S) (r : Result T OpenFault) → IfErr r (IsUnopened (store.contents it) (store.contents it)) → OpensStore store it it r
  stays_opens it r refused = grind arith

  pub stays_keeps : (it : S) (r : Result T OpenFault) → IfErr r (λ fault. IsCounted (store.failures it < store.failures it) (store.failures it) (store.failures it) (unopened_as fault)) → KeepsStore store unopened_as it it r
  stays_keeps it r counted = grind arith

  pub keeps_on : {U : Type 0} (old mid new : S) (x : U) (r : Result T OpenFault) → KeepsStore store unopened_as old mid (Ok x) → KeepsStore store unopened_as mid new r → KeepsStore store unopened_as old new r
  keeps_on old mid new x r first second = record {
    honest = λ h. second.honest (first.honest h);
    kept = λ h durable. second.kept (first.honest h) (first.kept h durable);
    later = omega (arith, first.later, second.later);
    counted = subst (λ n. IfErr r (λ fault. IsCounted (n < store.failures new) n (store.failures new) (unopened_as fault))) first.steady second.counted;
    steady = on_ok_weaker r (λ same. same ∙ first.steady) second.steady;
  }

  pub opens_after_reading : (old read new : S) (r : Result T OpenFault) → OnlyReads store old read → store.honest old → store.impossible read ≡ store.impossible old → OpensStore store read new r → OpensStore store old new r
  opens_after_reading old read new r reads honest possible opens =
      let same = reads.same honest in
      record {
        refused = subst (λ k. IfErr r (IsUnopened k (store.contents new))) same opens.refused;
        stopped = λ apart. subst (λ k. OnErr r (OpensAsBefore k (store.contents new))) same (opens.stopped (subst FingerprintsDifferBack (sym same) apart));
        cut = λ durable apart left may.
            subst (λ k. OpensAsBefore k left) same
            (opens.cut (λ other may_be. durable other (reads.remains honest other may_be) ∙ sym same) (subst FingerprintsDifferBack (sym same) apart) left may);
        possible = opens.possible ∙ possible;
        calls =
            let counted = opens.calls in
            (counted.0, subst (λ k. AreCallsToOpen k counted.0) same counted.1, subst (λ before. CountsCalls unopened_as counted.0 before (store.writing_calls new) r) reads.unwritten counted.2);
      }

-- A command that is stopped anywhere leaves a store that opens as before it or after it.

moved_walks : (n : Next) (s : KeptSession) (entries : List (List Change)) → entries_for n s ≡ entries → entries ≢ [] → CanWalk s → CanWalk (moved n s)
moved_walks n s [] e some walks = absurd (some refl)
moved_walks next.Undo s (cs ∷ rest) e some walks = undone_can_walk s (next_of s.undos) rest walks (e ∙ ap (λ es. next_of es ∷ rest) (sym e))
moved_walks next.Redo s (cs ∷ rest) e some walks = redone_can_walk s (next_of s.redos) rest walks (e ∙ ap (λ es. next_of es ∷ rest) (sym e))

committed_walks : (kind : Kind) (s : KeptSession) → CanWalk s → CanBe kind s → CanWalk (after_commit kind s)
committed_walks (Changing cs) s walks can = done_can_walk s cs walks can.0
committed_walks (Moving n) s walks can = moved_walks n s (entries_for n s) refl can walks

committed_files : (kind : Kind) (s : KeptSession) → (after_commit kind s).folder.files ≡ effects s.folder.files (changes_by_kind kind s)
unfolding kept_done kept_undone kept_redone
committed_files kind s = grind (arith, state_files)

pub halfway_files : (k : Contents) (halfway : Option (Vec ℕ Global)) → (with_halfway_journal k halfway).files ≡ k.files
halfway_files k halfway = grind arith

changed_files : (k : Contents) (halfway : Option (Vec ℕ Global)) (cs : List Change) → (with_all_changes (with_halfway_journal k halfway) cs).files ≡ effects k.files cs
changed_files k halfway cs = ap (λ (x : Contents). x.files) (all_changed_is (with_halfway_journal k halfway) cs) ∙ ap (λ f. effects f cs) (halfway_files k halfway)

-- wherever it stopped, a prefix of the changes is made
in_order : (k : Contents) (journals : Journals) (cs : List Change) (new : Contents) → IsStoppedAt k journals cs new → (n : ℕ) × (new.files ≡ effects k.files (take n cs))
unfolding effects
in_order k journals cs new (inl e) = (0, ap (λ (x : Contents). x.files) e)
in_order k journals cs new (inr (inl s)) = (s.0, ap (λ (x : Contents). x.files) s.2 ∙ changed_files k journals.halfway (take s.0 cs))
in_order k journals cs new (inr (inr e)) =
    (length cs, ap (λ (x : Contents). x.files) e ∙ changed_files k journals.halfway cs ∙ ap (effects k.files) (sym (take_all (length cs) cs (omega arith))))

pub none_made : {F : Type 0} (folder : Folder) (requested : Result (List Change) F) → IfOk requested (λ changes. (n : ℕ) × (folder ≡ effects folder (take n changes)))
none_made folder requested = unfold effects in grind arith

-- the session's journal opens its folder as the session
pub settled_holds : (k : Contents) (s : KeptSession) (bytes : List ℕ) → CanWalk s → Spells bytes (settled_journal Two (session_of_kept s)) → k.files ≡ s.folder.files → Holds (with_journal k bytes) (with_history (session_of_kept s))
settled_holds k s bytes walks spells files =
    record {
      files = files;
      opens = subst (λ (f : Folder). OpensAs f (Some bytes) (Ok (with_history (session_of_kept s)))) (sym files) (settled_stored Two (session_of_kept s) bytes (walked_is_valid s walks) spells);
    }

pub record IsMadeReady (action : Action) (old : KeptSession) (ready : Prepared) (mid : KeptSession) : Type 0 where
  pub grew : OnlyGrew old mid
  pub is : IsReady action old ready mid
  pub walks : CanWalk mid
  pub applies : IsTrue (takes_all mid.folder (changes_by_kind ready.kind mid))

-- by the law about prepared changes
pub made_ready : ((kind : Kind) (s : KeptSession) → CanWalk s → CanBe kind s → IsTrue (takes_all s.folder (changes_by_kind kind s)))
    → (action : Action) (old : KeptSession) (ready : Prepared) (mid : KeptSession) → OnlyGrew old mid → IsReady action old ready mid → CanWalk old → IsMadeReady action old ready mid
made_ready applies action old ready mid grew is walks = grind (arith, grown_can_walk, applies)

module _ (action : Action) (old : KeptSession) (ready : Prepared) (mid : KeptSession) (made : IsMadeReady action old ready mid) where
  -- it applies the changes that the action requests
  pub requested_of_mid : changes_requested (session_of_kept old) action ≡ Ok (changes_by_kind ready.kind mid)
  requested_of_mid = grind (arith, same_changes)

  pub requested_in_order : (k : Contents) (journals : Journals) (new : Contents) → IsStoppedAt k journals (changes_by_kind ready.kind mid) new
      → IfOk (changes_requested (session_of_kept old) action) (λ changes. (n : ℕ) × (new.files ≡ effects k.files (take n changes)))
  requested_in_order k journals new stop =
      subst (λ r. IfOk r (λ changes. (n : ℕ) × (new.files ≡ effects k.files (take n changes)))) (sym requested_of_mid) (in_order k journals (changes_by_kind ready.kind mid) new stop)

  -- it can be applied to a store with the session's folder
  pub ready_applies : (k : Contents) → k.files ≡ old.folder.files → (cs : List Change) → cs ≡ changes_by_kind ready.kind mid → IsTrue (are_applicable k.files cs)
  ready_applies k files cs is = grind (arith, taken_are_applicable)

module _ (action : Action) (old : KeptSession) (ready : Prepared) (mid : KeptSession) (made : IsMadeReady action old ready mid) (journals : Journals)
    (spelled : SpellsReady ready.kind mid journals) (k : Contents) (files : k.files ≡ old.folder.files) where
  written_holds : Holds (after_write_down k journals (changes_by_kind ready.kind mid)) (with_history (session_of_kept (after_commit ready.kind mid)))
  written_holds =
      settled_holds (with_all_changes (with_halfway_journal k journals.halfway) (changes_by_kind ready.kind mid)) (after_commit ready.kind mid) journals.after.items (committed_walks ready.kind mid made.walks made.is.fits.can) spelled.1
      (changed_files k journals.halfway (changes_by_kind ready.kind mid) ∙ ap (λ f. effects f (changes_by_kind ready.kind mid)) (files ∙ sym made.grew.files) ∙ sym (committed_files ready.kind mid))

  pub written_down : HoldsJournaled (session_of_kept (after_commit ready.kind mid)) (after_write_down k journals (changes_by_kind ready.kind mid))
  written_down = record { holds = written_holds; bytes = journals.after.items; journal = refl; spells = spelled.1 }

  -- after some of the changes
  passed_opens : (halfway : Option (Vec ℕ Global)) (changes : List Change) (n : ℕ) → SpellsWhere halfway (halfway_where Two (session_of_kept mid) changes) → takes_all mid.folder changes ≡ true → FingerprintsDiffer mid.folder.files changes → n ≤ length changes
      → (with_all_changes (with_halfway_journal k halfway) (take n changes) ≡ k) ⊎ IsOpening (with_all_changes (with_halfway_journal k halfway) (take n changes)) (Ok (with_history (session_of_kept mid)))
  passed_opens None [] n spells taken apart le = inl (ap (with_all_changes k) (take_all n [] (omega arith)))
  passed_opens (Some bytes) (c ∷ rest) n spells taken apart le =
      let s = session_of_kept mid in
      let opens = halfway_stored Two s (c ∷ rest) n bytes.items (walked_is_valid mid made.walks) (taken_are_applicable mid.folder (c ∷ rest) taken) apart le spells in
      let is_there = all_changed_is (with_journal k bytes.items) (take n (c ∷ rest)) ∙ ap (λ f. record { files = effects f (take n (c ∷ rest)); journal = Some bytes.items }) (files ∙ sym made.grew.files) in
      inr (subst (λ (x : Contents). IsOpening x (Ok (with_history s))) (sym is_there) opens)
  passed_opens halfway changes n spells taken apart le = absurd spells

  apart_from_mid : FingerprintsDifferAlong (session_of_kept old) action → FingerprintsDiffer mid.folder.files (changes_by_kind ready.kind mid)
  apart_from_mid apart =
      subst (λ (f : Folder). FingerprintsDiffer f (changes_by_kind ready.kind mid)) (sym made.grew.files) (subst (λ r. IfOk r (FingerprintsDiffer old.folder.files)) (requested_of_mid action old ready mid made) apart)

  pub stopped_opens : (new : Contents) → IsStoppedAt k journals (changes_by_kind ready.kind mid) new → FingerprintsDifferAlong (session_of_kept old) action → LeadsToAfterRequested old.folder.files action → OpensAsBeforeOrAfter (session_of_kept old) action k new
  stopped_opens new (inl e) apart leads = inl e
  stopped_opens new (inr (inl s)) apart leads =
      by_either (passed_opens journals.halfway (changes_by_kind ready.kind mid) s.0 spelled.0 made.applies (apart_from_mid apart) s.1)
      (λ none. inl (s.2 ∙ none))
      (λ opens. inr (inl (subst (λ (t : Session). IsOpening new (Ok (with_history t))) (same_session old mid made.grew) (subst (λ (x : Contents). IsOpening x (Ok (with_history (session_of_kept mid)))) (sym s.2) opens))))
  stopped_opens new (inr (inr e)) apart leads =
      inr (inr (record {
        after = session_of_kept (after_commit ready.kind mid);
        accepted = made.is.leads;
        leads = leads;
        holds = subst (λ (x : Contents). Holds x (with_history (session_of_kept (after_commit ready.kind mid)))) (sym e) written_holds;
      }))

-- The number of writing calls to a store.

-- what was prepared needs the calls of the requested changes
pub ready_calls : (action : Action) (old : KeptSession) (ready : Prepared) (mid : KeptSession) → IsMadeReady action old ready mid → (journals : Journals) → SpellsReady ready.kind mid journals
    → calls_before journals.halfway + (length (changes_by_kind ready.kind mid) + 1) ≡ calls_unless (changes_requested (session_of_kept old) action)
ready_calls action old ready mid made journals spelled = grind (arith, requested_of_mid)

-- any action but a verify makes the calls of its changes
pub requested_calls : (action : requested.Action) (s : Session) → calls_unless (changes_requested s (action_of action)) ≡ calls_requested s (action_of action)
requested_calls action s = grind arith

-- what holds of each verify holds of an action that is a verify
pub for_verify : (P : Action → Type 0) → ((base : List ℕ) (extras : List (List ℕ)) → P (Do (Verify base extras))) → (action : Action) → IsVerify action → P action
for_verify P so action is = grind arith

-- a halfway command was taken back, wherever that stopped
pub back_calls : {T : Type 0} (contents : Contents) (files : Folder) (bytes : List ℕ) (s : Session) (back : List Change) (before after : ℕ) (r : Result T OpenFault) → WasRead contents files (Some bytes) → Opens files bytes (Ok (Halfway s back))
    → CountsCalls unopened_as (length back + 1) before after r → (calls : ℕ) × AreCallsToOpen contents calls × CountsCalls unopened_as calls before after r
back_calls contents files bytes s back before after r read opens counted =
    (length back + 1, inr (s, back, is_halfway contents files bytes s back read opens, refl), counted)

-- the session that gives the same outcome as the opened one needs the same number of calls
pub stands_calls : (action : Action) (o s : Started) → StandsFor (IsVerify action) o s → calls_requested s.session action ≡ calls_requested o.session action
stands_calls action o s h = grind arith

-- an opening that is refused
pub opening_calls : {T : Type 0} (action : Action) (old : Contents) (before after : ℕ) (e : OpenFault) → (calls : ℕ) × AreCallsToOpen old calls × CountsCalls {T = T} unopened_as calls before after (Err e) → CountsFailedRun action old before after (unopened_as e)
opening_calls action old before after e counted = grind arith

module _ (action : Action) (old : Contents) (before mid after opening : ℕ) (o : Started) (s : Session) (takes : AreCallsToOpen old opening) (opens : IsOpening old (Ok o)) (counted : mid ≡ before + opening) (alike : calls_requested s action ≡ calls_requested o.session action) where
  pub run_calls : AreCallsToRun action old (opening + calls_requested s action)
  run_calls = (opening, takes, o, opens, ap (λ n. opening + n) alike)

  -- an action that is refused once the store is opened
  pub perform_calls : (fault : PerformFault) → IsCounted (AreAtMost (calls_requested s action) mid after) mid after (failure_for fault) → CountsFailedRun action old before after (failure_for fault)
  perform_calls Store most =
      (opening + calls_requested s action, inr run_calls, record { later = omega (arith, counted, most.later); within = omega (arith, counted, most.within) })
  perform_calls (Refusing (Plan fault)) same = (opening, takes, same ∙ counted)
  perform_calls (Refusing NothingToUndo) same = (opening, takes, same ∙ counted)
  perform_calls (Refusing NothingToRedo) same = (opening, takes, same ∙ counted)

-- a refusal of the session is no failure of the store
pub session_counts : (Failed : Type 0) (n : ℕ) (reason : SessionFault) → IsCounted Failed n n (failure_for (Refusing reason))
session_counts Failed n reason = grind arith

-- Runs on one store keep one history.

-- bytes spell at most one journal
abbrev OneReading : Type 0
OneReading = (bytes : List ℕ) (a b : Journal) → Spells bytes a → Spells bytes b → a ≡ b

one_opening : OneReading → (folder : Folder) (bytes : List ℕ) (a b : Result Opened JournalFault) → Opens folder bytes a → Opens folder bytes b → a ≡ b
unfolding Opens
one_opening one_reading folder bytes a b (inl p) (inl q) = p.2 ∙ ap (opened folder) (one_reading bytes p.0 q.0 p.1 q.1) ∙ sym q.2
one_opening one_reading folder bytes a b (inl p) (inr q) = absurd (q.0 p.0 p.1)
one_opening one_reading folder bytes a b (inr p) (inl q) = absurd (p.0 q.0 q.1)
one_opening one_reading folder bytes a b (inr p) (inr q) = p.1 ∙ sym q.1

pub one_start : OneReading → (folder : Folder) (journal : Option (List ℕ)) (a b : Started) → OpensAs folder journal (Ok a) → OpensAs folder journal (Ok b) → a ≡ b
unfolding OpensAs
one_start one_reading folder None a b p q = same_ok a b (p ∙ sym q)
one_start one_reading folder (Some bytes) a b p q =
    same_ok a b (p.2 ∙ ap (started folder) (one_opening one_reading folder bytes p.0 q.0 p.1 q.1) ∙ sym q.2)

new_leads : (folder : Folder) → is_valid (new_session folder) ≡ true
new_leads folder = unfold leads in refl

started_leads : (folder : Folder) (bytes : List ℕ) (o : Result Opened JournalFault) (a : Started) → Opens folder bytes o → Ok a ≡ started folder o → is_valid a.session ≡ true
started_leads folder bytes (Ok (Settled s)) a opens e = ap (λ (x : Started). is_valid x.session) (same_ok a _ e) ∙ (settled_on folder bytes s opens).1
started_leads folder bytes (Ok (Halfway s back)) a opens e = ap (λ (x : Started). is_valid x.session) (same_ok a _ e) ∙ (let by = halfway_by folder bytes s back opens in (taken_back_leads by.0 folder s back by.2).2)
started_leads folder bytes (Err (FolderChanged false)) a opens e = ap (λ (x : Started). is_valid x.session) (same_ok a _ e) ∙ new_leads folder
started_leads folder bytes (Err fault) a opens e = absurd (ok_no_err a fault e)

start_leads : (folder : Folder) (journal : Option (List ℕ)) (a : Started) → OpensAs folder journal (Ok a) → is_valid a.session ≡ true
unfolding OpensAs
start_leads folder journal a opens = grind (arith, started_leads, new_leads)

-- if the session refuses an action, the history does, too
refused_after : (s : Session) (action : Action) (reason : Refusal) → changes_requested s action ≡ Err reason → history_after (history_of s) action ≡ Err reason
refused_after s action reason e = unfold session_after in refused_alike s action reason (ap (session_unless s action) e)

-- a verify leaves the session as it is
verify_stays : (s after : Session) (base : List ℕ) (extras : List (List ℕ)) → session_after s (Do (Verify base extras)) ≡ Ok after → s ≡ after
verify_stays s after base extras e = unfold session_after changes_requested in grind arith

-- after an accepted action the store holds the session afterwards; after a verify of a folder with a dropped history,
-- too
done_holds : (action : Action) (s after : Session) (dropped : Bool) (old between new : Contents) → IsOpened old between (record { session = s; dropped = dropped }) → session_after s action ≡ Ok after → IsWritten action after between new
    → (end : Started) × (end.session ≡ after) × Holds new end
done_holds (Do (Verify base extras)) s after dropped old between new opened leads written =
    let end : Started = record { session = s; dropped = dropped } in
    (end, verify_stays s after base extras leads, subst (λ (k : Contents). Holds k end) (sym written) opened.holds)
done_holds action s after dropped old between new opened leads written = (with_history after, refl, written.holds)

-- if it takes effect, the history takes the action's step and the store holds the session after it
module _ (one : OpensInOneWay) (old : Contents) (started : Started) (opens : IsOpening old (Ok started)) where
  takes_step : (action : Action) (session after : Session) (dropped : Bool) → IsOpening old (Ok (record { session = session; dropped = dropped })) → LeadsToAfterRequested session.folder action → session_after session action ≡ Ok after
      → history_after (history_of started.session) action ≡ Ok (history_of after)
  takes_step action session after dropped opening leads accepted = grind (arith, accepted_next, start_leads)

  effective : (action : Action) (new : Contents) → TakesEffect action old new
      → (next : Started) × (history_after (history_of started.session) action ≡ Ok (history_of next.session)) × Holds new next
  effective action new (inl p) =
      let done = p.2 in
      let left = done_holds action done.session done.after p.0 old done.between new done.opened done.accepted done.written in (
        left.0,
        takes_step action done.session done.after p.0 done.opened.opens done.leads done.accepted ∙ ap (λ (s : Session). Ok (history_of s)) (sym left.1),
        left.2,
      )
  effective action new (inr p) =
      let stopped = p.2 in (
        with_history stopped.after,
        takes_step action p.0.session stopped.after p.0.dropped p.1 stopped.leads stopped.accepted,
        stopped.holds,
      )

  -- if it has none, the store opens as before
  passed : (new : Contents) → HasNoEffect old new → (left : Started) × (left.session ≡ started.session) × IsOpening new (Ok left)
  passed new (inl same) = (started, refl, subst (λ k. IsOpening k (Ok started)) (sym same) opens)
  passed new (inr p) = (p.1, p.4 ∙ ap (λ (x : Started). x.session) (one old p.0 started p.2 opens), p.3)

-- no command is halfway after one that takes effect
pub effect_settles : (action : Action) (old new : Contents) → TakesEffect action old new → IsSettled new
effect_settles action old new (inl p) =
    let done = p.2 in
    let left = done_holds action done.session done.after p.0 old done.between new done.opened done.accepted done.written in
    (left.0, left.2)
effect_settles action old new (inr p) = (with_history p.2.after, p.2.holds)

-- what is refused, the history refuses, too
pub refused_so : OpensInOneWay → (old new : Contents) (started : Started) (action : Action) (reason : Refusal) → IsOpening old (Ok started) → (opened : Started) × IsRefusedFor action old new reason opened
    → history_after (history_of started.session) action ≡ Err reason
refused_so one old new started action reason opens refused =
    ap (λ (x : Started). history_after (history_of x.session) action) (one old started refused.0 opens refused.1.0.opens) ∙ refused_after refused.0.session action reason refused.1.1

pub runs_go : OpensInOneWay → (old new : Contents) (started : Started) (requested done : List Action) → IsOpening old (Ok started) → Runs old requested done new
    → (end : Started) × Execution (history_of started.session) done (length done) (history_of end.session) × IsOpening new (Ok end)
runs_go one old new started _ _ opens runs.Ended = (started, history.Ended, opens)
runs_go one old new started _ _ opens (Effective {action = action} {requested = requested} {done = done} effect rest) =
    let next = effective one old started opens action _ effect in
    let later = runs_go one _ new next.0 requested done next.2.opens rest in
    (later.0, history.Accepted next.1 later.1, later.2)
runs_go one old new started _ done opens (runs.Passed {requested = requested} none rest) =
    let next = passed one old started opens _ none in
    let later = runs_go one _ new next.0 requested done next.2 rest in
    (later.0, subst (λ s. Execution (history_of s) done (length done) (history_of later.0.session)) next.1 later.1, later.2)

-- one more run takes effect
pub run_more : {k mid end : Contents} {requested done : List Action} (action : Action) → Runs k requested done mid → TakesEffect action mid end → Runs k (requested ++ action ∷ []) (done ++ action ∷ []) end
run_more action runs.Ended effect = Effective effect runs.Ended
run_more action (Effective first rest) effect = Effective first (run_more action rest effect)
run_more action (runs.Passed none rest) effect = runs.Passed none (run_more action rest effect)

-- As many undos as there were effective commands lead back.

-- at most all of the actions are accepted
at_most : {h end : History} {actions : List Action} {n : ℕ} → Execution h actions n end → n ≤ length actions
at_most Ended = omega arith
at_most (Accepted step run) = let fewer = at_most run in omega (arith, fewer)
at_most (Passed may run) = let fewer = at_most run in omega (arith, fewer)

-- n undos, each accepted, leave n folders fewer
undos_drop : (n : ℕ) (h end : History) → Execution h (replicate n Undo) n end → drop n (folders h) ≡ folders end
unfolding history_after
undos_drop zero h end Ended = refl
undos_drop (suc n) h end (Accepted {next = next} step run) =
    sym (one_fewer n h.now h.older h.newer (drop (suc n) (folders h)) next step refl) ∙ undos_drop n next end run
undos_drop (suc n) h end (Passed may run) =
    let most = at_most run in
    let count = length-replicate n Undo in
    absurd (omega (arith, most, count))

-- the law that the folders without the first n are those before n accepted commands
abbrev pub LeavesOlder : Type 0
LeavesOlder = (start end : History) (actions : List Action) (n : ℕ) → Execution start actions n end → AllByRecursion IsChanging actions → drop n (folders end) ≡ folders start

-- the first of the folders is the present one
same_first : (a b : History) → folders a ≡ folders b → a.now ≡ b.now
same_first a b same = let first : a.now ≡ b.now = cc in first

-- an effective undo that is the last of as many as there were commands leaves the folder before them
pub leaves_first : OpensInOneWay → LeadBack → (folder : Folder) (old new : Contents) → IsOneUndoFrom folder old → TakesEffect Undo old new → IsSettled new → new.files ≡ folder
unfolding history_of
leaves_first one back folder old new from effect after =
    let all : replicate from.undone Undo ++ Undo ∷ [] ≡ replicate (length from.done) Undo = replicate_more from.undone Undo ∙ ap (λ n. replicate n Undo) (sym from.left) in
    let undos = subst (λ done. Runs from.mid (from.more ++ Undo ∷ []) done new) all (run_more Undo from.undos effect) in
    let end = back.opens from.first from.mid new from.started from.requested from.done (from.more ++ Undo ∷ []) from.opens from.commands from.changing undos in
    after.1.files ∙ ap (λ (x : Started). x.session.folder) (one new after.0 end.0 after.1.opens end.1) ∙ same_first (history_of end.0.session) (history_of from.started.session) end.2 ∙ from.on

module _ (keep : KeepOneHistory) where
  pub lead_back : LeavesOlder → (old mid new : Contents) (started : Started) (requested done more : List Action) → IsOpening old (Ok started) → Runs old requested done mid → AllByRecursion IsChanging done → Runs mid more (replicate (length done) Undo) new
      → (end : Started) × IsOpening new (Ok end) × (folders (history_of end.session) ≡ folders (history_of started.session))
  lead_back older old mid new started requested done more opens commands changing undos =
      let middle = keep.kept old mid started requested done opens commands in
      let end = keep.kept mid new middle.0 more (replicate (length done) Undo) middle.2 undos in
      let undone = subst (λ n. Execution (history_of middle.0.session) (replicate (length done) Undo) n (history_of end.0.session)) (length-replicate (length done) Undo) end.1 in
      (end.0, end.2, sym (undos_drop (length done) (history_of middle.0.session) (history_of end.0.session) undone) ∙ older (history_of started.session) (history_of middle.0.session) done (length done) middle.1 changing)

  -- if no command is halfway, the files are those of the session
  pub leave_files : OpensInOneWay → LeavesOlder → (old mid new : Contents) (requested done more : List Action) → IsSettled old → Runs old requested done mid → AllByRecursion IsChanging done → Runs mid more (replicate (length done) Undo) new → IsSettled new
      → new.files ≡ old.files
  leave_files one older old mid new requested done more before commands changing undos after = unfold history_of in grind (arith, lead_back, same_first)

  -- an undo that takes effect leaves the first of the older folders
  older_of : (h next : History) → Execution h (Undo ∷ []) 1 next → (rest : List Folder) × (h.older ≡ next.now ∷ rest)
  older_of h next k = unfold history_after in grind arith

  pub leaves_older : OpensInOneWay → (old new : Contents) (started : Started) → IsOpening old (Ok started) → TakesEffect Undo old new → IsSettled new
      → (rest : List Folder) × ((history_of started.session).older ≡ new.files ∷ rest)
  leaves_older one old new started opens effect after = unfold history_of in
      let end = keep.kept old new started (Undo ∷ []) (Undo ∷ []) opens (Effective effect runs.Ended) in
      let older = older_of (history_of started.session) (history_of end.0.session) end.1 in
      let same = after.1.files ∙ ap (λ (x : Started). x.session.folder) (one new after.0 end.0 after.1.opens end.2) in
      (older.0, older.1 ∙ ap (λ f. f ∷ older.0) (sym same))

-- What a verify returns and leaves, and what the other commands leave.

module _ (folder : Folder) (base : List ℕ) (extras : List (List ℕ)) where
  answer_of : Result ParSet Fault → Result Report Fault
  answer_of found = found >>= (λ set. Ok (report_of folder set (candidates folder set extras)))

  read : (found : Result ParSet Fault) (report : Report) → answer_of found ≡ Ok report → fault_of found ≡ None
  read found report e = unfold answer_of in grind arith

  unread : (found : Result ParSet Fault) (fault : Fault) → answer_of found ≡ Err fault → fault_of found ≡ Some fault
  unread found fault e = unfold answer_of in grind arith

  accepted : (report : Report) → report_in folder base extras ≡ Ok report → refusal folder (Verify base extras) ≡ None
  accepted report e = unfold report_in refusal answer_of in read (set_in folder base extras) report e

  refused : (fault : Fault) → report_in folder base extras ≡ Err fault → refusal folder (Verify base extras) ≡ Some fault
  refused fault e = unfold report_in refusal answer_of in unread (set_in folder base extras) fault e

-- its fault is one of the session
pub verify_refused : (s : KeptSession) (base : List ℕ) (extras : List (List ℕ)) (fault : Fault) → (fault ≡ Memory) ⊎ (report_in s.folder.files base extras ≡ Err fault) → MayRefuse (Do (Verify base extras)) s (Plan fault)
unfolding changes_requested
verify_refused s base extras fault (inl memory) = inl (ap Plan memory)
verify_refused s base extras fault (inr e) = inr (ap (λ o. changes_unless o (changes_of s.folder.files (Verify base extras))) (refused s.folder.files base extras fault e))

-- the session stays
pub verify_leaves : (s : Session) (base : List ℕ) (extras : List (List ℕ)) (report : Report) → report_in s.folder base extras ≡ Ok report → session_after s (Do (Verify base extras)) ≡ Ok s
verify_leaves s base extras report e = unfold session_after changes_requested in
    ap (λ o. session_unless s (Do (Verify base extras)) (changes_unless o (changes_of s.folder (Verify base extras)))) (accepted s.folder base extras report e)

pub as_it_was : (s : KeptSession) → OnlyGrew s s
as_it_was s = record { files = refl; undos = refl; redos = refl; vacant = omega arith; room = omega arith }

-- each other command leaves the session afterwards in the store
pub written_by : (action : RequestedAction) (after : Session) (old new : Contents) → HoldsJournaled after new → IsWritten (action_of action) after old new
written_by action after old new holds = grind arith

-- and none of them is a verify
pub not_verify : (action : RequestedAction) → IsVerify (action_of action) → ⊥
not_verify action is = grind arith

-- What a store is opened as for a command, and the result of an action on it.

is_plan : {A : Type 0} → Result A history.Refusal → Bool
is_plan (Ok x) = true
is_plan (Err (history.Refused fault)) = true
is_plan (Err history.NothingToUndo) = false
is_plan (Err history.NothingToRedo) = false

at_an_end : (s : Session) (action : Action) (end : history.Refusal) → is_plan {A = List Change} (Err end) ≡ false → changes_requested s action ≡ Err end → IsBack action
at_an_end s action end is e = unfold changes_requested is_plan in grind (arith, false≢true, is_plan)

-- a stop of a command, or a cut during it, is one of the whole run
pub stopped_command : (action : Action) (old mid new : Contents) (start : Started) → IsOpened old mid start → (FingerprintsDifferAlong start.session action → OpensAsBeforeOrAfter start.session action mid new) → IsStopped action old new
stopped_command action old mid new start opened stopped = λ apart.
    by_either (stopped (apart.along start opened.opens))
    (λ same. inr (start, opened.opens, inl (subst (λ (k : Contents). IsOpened old k start) (sym same) opened).holds.opens))
    (λ stop. inr (start, opened.opens, inr stop))

-- a stop of the opening is one of the whole run, too
pub stopped_opening : (action : Action) (old new : Contents) → (FingerprintsDifferBack old → OpensAsBefore old new) → IsStopped action old new
stopped_opening action old new stopped = λ apart. by_either (stopped apart.back) (λ same. inl same) (λ s. inr (s.0, s.1, inl s.2))

-- a cut while a command is performed; during a verify the store doesn't change
pub cut_of_command : (Honest : Type 0) (action : Action) (old mid left : Contents) (opened started : Started) → Honest → StandsFor (IsVerify action) opened started → (Honest → IsOpened old mid opened)
    → (mid.files ≡ started.session.folder → FingerprintsDifferAlong started.session action → OpensAsBeforeOrAfter started.session action mid left) → (IsVerify action → left ≡ mid) → IsStopped action old left
cut_of_command Honest action old mid left opened started honest (inl same) found cut verified =
    let there : IsOpened old mid started = subst (λ (t : Started). IsOpened old mid t) same (found honest) in
    stopped_command action old mid left started there (cut there.holds.files)
cut_of_command Honest action old mid left opened started honest (inr verify) found cut verified = stopped_command action old mid left opened (found honest) (λ _. inl (verified verify.0))

module _ (action : Action) (old mid new : Contents) (s later : KeptSession) (dropped : Bool) (opened : IsOpened old mid (record { session = session_of_kept s; dropped = dropped })) (back : IsBack action → dropped ≡ false) where
  abbrev start : Started
  start = record { session = session_of_kept s; dropped = dropped }

  unchanged : new ≡ mid → IsOpened old new start
  unchanged same = subst (λ (k : Contents). IsOpened old k start) (sym same) opened

  ended : (end : history.Refusal) → is_plan {A = List Change} (Err end) ≡ false → changes_requested (session_of_kept s) action ≡ Err end → new ≡ mid → (session : Session) × IsRefusedFor action old new end (with_history session)
  ended end is requested same =
      let none = back (at_an_end (session_of_kept s) action end is requested) in
      (session_of_kept s, (subst (λ b. IsOpened old new (record { session = session_of_kept s; dropped = b })) none (unchanged same), requested))

  pub perform_failed : (fault : PerformFault) → IsRefused action s later fault → ((reason : SessionFault) → fault ≡ Refusing reason → new ≡ mid)
      → (FingerprintsDifferAlong (session_of_kept s) action → OpensAsBeforeOrAfter (session_of_kept s) action mid new) → IsFailed action old new (failure_for fault)
  unfolding is_plan
  perform_failed (Refusing (Plan reason)) refused same stopped =
      by_either refused.0 (λ memory. inl (let is : reason ≡ Memory = cc memory in is, inr (start, unchanged (same _ refl)))) (λ requested. inr (start, (unchanged (same _ refl), requested)))
  perform_failed (Refusing NothingToUndo) refused same stopped =
      by_either refused.0 (λ memory. absurd (let no : ⊥ = cc memory in no)) (λ requested. ended history.NothingToUndo refl requested (same _ refl))
  perform_failed (Refusing NothingToRedo) refused same stopped =
      by_either refused.0 (λ memory. absurd (let no : ⊥ = cc memory in no)) (λ requested. ended history.NothingToRedo refl requested (same _ refl))
  perform_failed Store refused same stopped = stopped_command action old mid new start opened stopped

pub opening_failed : (action : Action) (old new : Contents) (fault : OpenFault) → IsUnopened old new fault → (FingerprintsDifferBack old → OpensAsBefore old new) → IsFailed action old new (unopened_as fault)
opening_failed action old new unopened.JournalInvalid is stopped = is
opening_failed action old new unopened.FolderChanged is stopped = inl is
opening_failed action old new unopened.Memory is stopped = inl (refl, inl is)
opening_failed action old new unopened.Store is stopped = stopped_opening action old new stopped

pub opening_cause : (action : Action) (fault : OpenFault) → IsCause action (unopened_as fault)
opening_cause action fault = grind arith

pub perform_cause : (action : Action) (s later : KeptSession) (fault : PerformFault) → IsRefused action s later fault → IsCause action (failure_for fault)
perform_cause action s later (Refusing (Plan reason)) refused = by_either refused.0 (λ memory. inl (let is : reason ≡ Memory = cc memory in is)) (λ requested. inr (session_of_kept s, requested))
perform_cause action s later (Refusing NothingToUndo) refused = by_either refused.0 (λ memory. absurd (let no : ⊥ = cc memory in no)) (λ requested. (session_of_kept s, requested))
perform_cause action s later (Refusing NothingToRedo) refused = by_either refused.0 (λ memory. absurd (let no : ⊥ = cc memory in no)) (λ requested. (session_of_kept s, requested))
perform_cause action s later Store refused = tt

pub opened_as_is : (contents : Contents) (files : Folder) (bytes : List ℕ) (started : Started) → WasRead contents files (Some bytes) → OpensAs files (Some bytes) (Ok started) → started.session.folder ≡ files → IsOpened contents contents started
opened_as_is contents files bytes started read opens on = grind arith

pub opened_new : (contents : Contents) (files : Folder) → WasRead contents files None → IsOpened contents contents (with_history (new_session files))
opened_new contents files read = grind (arith, opened_on, opens_new)

-- what a store was opened as has the same outcomes as itself
pub stands : {E : Type 0} (Verifies honest : Type 0) (result : Result program.Started E) (old new : Contents) → (honest → IfOk result (λ s. IsOpened old new (started_of s)))
    → IfOk result (λ s. (o : Started) × StandsFor Verifies o (started_of s) × (honest → IsOpened old new o))
stands Verifies honest (Err e) old new opened = tt
stands Verifies honest (Ok s) old new opened = (started_of s, inl refl, opened)

-- without a command the result is what the store opens as
pub starts : {E : Type 0} (honest : Type 0) (result : Result program.Started E) (old new : Contents) → IfOk result (λ s. (o : Started) × StandsFor ⊥ o (started_of s) × (honest → IsOpened old new o))
    → honest → IfOk result (λ s. IsOpened old new (started_of s))
starts honest result old new opened h = grind arith

-- the store is on the folder of whatever has the same outcomes
pub files_of : (action : Action) (old mid : Contents) (o s : Started) → StandsFor (IsVerify action) o s → IsOpened old mid o → mid.files ≡ s.session.folder
files_of action old mid o s h opened = grind arith

pub no_way_back : (action : Action) → IsVerify action → IsBack action → ⊥
no_way_back action is = for_verify (λ a. IsBack a → ⊥) (λ base extras back. back) action is

same_requested : (s t : Session) (command : Command) → s.folder ≡ t.folder → changes_requested s (Do command) ≡ changes_requested t (Do command)
same_requested s t command on = unfold changes_requested in ap (λ f. changes_unless (refusal f command) (changes_of f command)) on

standing : Session → KeptSession
standing s = record { folder = record { files = s.folder; vacant = 0 }; undos = s.undos; redos = s.redos; room = 0 }

-- a verify that is refused on one session is refused on another one on the same folder
pub verify_failed : (action : Action) (old mid new : Contents) (o : Started) (s later : KeptSession) → IsVerify action → o.session.folder ≡ s.folder.files → IsOpened old mid o → new ≡ mid
    → (fault : PerformFault) → IsRefused action s later fault → IsFailed action old new (failure_for fault)
unfolding standing
verify_failed action old mid new o s later is on opening same fault refused =
    let failed : (base : List ℕ) (extras : List (List ℕ)) → IsRefused (Do (Verify base extras)) s later fault → IsFailed (Do (Verify base extras)) old new (failure_for fault) =
    λ base extras refused. perform_failed (Do (Verify base extras)) old mid new (standing o.session) (standing o.session) o.dropped opening (λ back. absurd back) fault (refused_on base extras fault refused) (λ _ _. same) (λ _. inl same) in
    for_verify (λ a. IsRefused a s later fault → IsFailed a old new (failure_for fault)) failed action is refused
  where
    refused_on : (base : List ℕ) (extras : List (List ℕ)) (f : PerformFault) → IsRefused (Do (Verify base extras)) s later f → IsRefused (Do (Verify base extras)) (standing o.session) (standing o.session) f
    refused_on base extras Store r = r
    refused_on base extras (Refusing reason) r =
        by_either r.0
        (λ memory. (inl memory, as_it_was (standing o.session)))
        (λ requested. (inr (same_requested o.session (session_of_kept s) (Verify base extras) on ∙ requested), as_it_was (standing o.session)))

module _ (honest : Type 0) (old mid new : Contents) (o : Started) (s later : Session) (dropped : Bool) (outcome : Outcome) (opening : honest → IsOpened old mid o) where
  abbrev Is : Action → Type 0
  Is action = (d : Bool) × (output_of d outcome ≡ output_of dropped outcome) × (honest → IsDone action old new d outcome)

  reported : (base : List ℕ) (extras : List (List ℕ)) → o.session.folder ≡ s.folder → IsAnswer s (Do (Verify base extras)) outcome → LeadsToAfterRequested s.folder (Do (Verify base extras)) → (honest → mid.files ≡ s.folder → new ≡ mid) → Is (Do (Verify base extras))
  reported base extras on answer leads written = unfold output_of in
      let same = ap (λ f. report_in f base extras) on ∙ answer.1 in (
        o.dropped,
        ap (output_of o.dropped) answer.2 ∙ sym (ap (output_of dropped) answer.2),
        λ h. record {
          session = o.session;
          between = mid;
          opened = opening h;
          answer = (answer.0, same, answer.2);
          after = o.session;
          accepted = verify_leaves o.session base extras answer.0 same;
          leads = subst (λ f. LeadsToAfterRequested f (Do (Verify base extras))) (sym on) leads;
          written = written h ((opening h).holds.files ∙ on);
        },
      )

  pub done_for : (action : Action) → StandsFor (IsVerify action) o (record { session = s; dropped = dropped }) → IsAnswer s action outcome → session_after s action ≡ Ok later → LeadsToAfterRequested s.folder action
      → (honest → mid.files ≡ s.folder → IsWritten action later mid new) → Is action
  done_for action (inr verify) answer accepted leads written =
      for_verify (λ a. IsAnswer s a outcome → LeadsToAfterRequested s.folder a → (honest → mid.files ≡ s.folder → IsWritten a later mid new) → Is a)
      (λ base extras answer leads written. reported base extras verify.1 answer leads written) action verify.0 answer leads written
  done_for action (inl same) answer accepted leads written = (
    dropped,
    refl,
    λ h. record {
      session = s;
      between = mid;
      opened = subst (λ t. IsOpened old mid t) same (opening h);
      answer = answer;
      after = later;
      accepted = accepted;
      leads = leads;
      written = written h ((opening h).holds.files ∙ ap (λ (t : Started). t.session.folder) same);
    },
  )
