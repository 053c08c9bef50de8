use Rattle.par2_tool.proofs.Names.{◌≡◌, ◌+◌, inl, List, length, refl, sym, ap, subst, ◌∙◌, map, take, ℕ, arith, Result, OnOk, IfErr, IfErr-weaker, IfOk-from_err, Memory, err_from_is_err_and, on_ok_weaker, IsVerify, HoldsJournaled, AreAtMost, IsCounted, failure_for, SessionFault, KeptSession, after_write_down, IsStoppedAt, IsWritten, calls_requested, FingerprintsDifferAlong, OpensAsBeforeOrAfter, calls_before, length-map, Verify, session_of_kept, changes_requested, Contents, action_of, command_of, report_view, MayRefuse, Plan, SpellsReady, change_of, changes_by_kind, after_commit, ok_no_err, early_refusal_of, IfOk, effects, PerformFault, ActsOn, IsOn, IsPerformed, RefusesAtOnce, Command, Act, command_leads, Outcome, for_verify, requested_calls, ready_calls, session_counts, any_err, IsMadeReady, none_made, made_ready, ready_applies, written_down, stopped_opens, requested_in_order, as_it_was, not_verify, verify_leaves, verify_refused, written_by}
use Rattle.par2_spec.specs.Changes as defined
use Rattle.par2_spec.specs.declared.commands.Action as requested
use Rattle.par2_disk.specs.declared.store.Store.{Ghosts as StoreOf}
use Rattle.par2_tool.specs.declared.performing.Outcome.TheVariants as outcome
use Rattle.par2_tool.specs.declared.performing.PerformFault.TheVariants.{Session as Refusing}
use Rattle.par2_tool.proofs.performing.perform.Goals.{After-write_down, In-Ok-prepare}
use Rattle.par2_tool.proofs.performing.perform.Goals as goal

-- nothing was done to the store
stays_on : {S T : Type 0} (store : StoreOf S) (command : Command) (it : S) (before after : KeptSession) (result : Result T PerformFault)
    → OnOk result (IsVerify (command_of command)) → IfErr result (λ fault. (reason : SessionFault) × (fault ≡ Refusing reason)) → (IsVerify (command_of command) → after ≡ before) → ActsOn store command it it before after result
stays_on store command it before after result verify refused same = record {
  verify = λ is. (refl, same is);
  unchanged = λ _ _. refl;
  written = λ _. on_ok_weaker result (λ is. for_verify (λ action. IsWritten action (session_of_kept after) (store.contents it) (store.contents it)) (λ _ _. refl) (command_of command) is) verify;
  stopped = λ _ _. any_err result _ (inl refl);
  cut = λ _ durable _ left may. inl (durable left may);
  in_order = λ _. any_err result _ (none_made (store.contents it).files (changes_requested (session_of_kept before) (command_of command)));
  possible = λ _. refl;
  calls = record {
    done = on_ok_weaker result (λ is. for_verify (λ action. store.writing_calls it ≡ store.writing_calls it + calls_requested (session_of_kept before) action) (λ _ _. omega arith) (command_of command) is) verify;
    refused =
        let n = store.writing_calls it in
        let most = AreAtMost (calls_requested (session_of_kept before) (command_of command)) n n in
        IfErr-weaker result _ _ (λ fault is. subst (λ (f : PerformFault). IsCounted most n n (failure_for f)) (sym is.1) (session_counts most n is.0)) refused;
  };
}

-- no action is a verify
no_verify : {A : Type 0} (command : Command) (action : requested.Action) → command ≡ Act action → IsVerify (command_of command) → A
no_verify command action is verify = absurd (not_verify action (subst (λ (x : Command). IsVerify (command_of x)) is verify))

pub returns-in-Ok-clause-done : goal.returns-in-Ok-clause-done
returns-in-Ok-clause-done g c =
    let s = session_of_kept c.args.session.now in
    let report = rw c.as_str.ensures.value at (rw c.as_slice.ensures.value at c.in-Ok.ensures.report) in
    subst (λ (x : Command). IsPerformed (command_of x) c.args.session.now c.args.session.now (outcome.Report c.in-Ok.report)) (sym c.in-Verify.is)
    (record {
      after = verify_leaves s _ _ (report_view c.in-Ok.report) report;
      leads = λ _. command_leads s.folder (Verify _ _) tt;
      answer = (report_view c.in-Ok.report, report, refl);
    })

pub returns-in-Ok-clause-stored : goal.returns-in-Ok-clause-stored
returns-in-Ok-clause-stored g c = stays_on g.S.Store c.args.command.now c.args.store.now _ _ _ (subst (λ (x : Command). IsVerify (command_of x)) (sym c.in-Verify.is) tt) tt (λ _. refl)

pub returns-in-Err-clause-refused : goal.returns-in-Err-clause-refused
returns-in-Err-clause-refused g c =
    let s = c.args.session.now in
    let refused = rw c.as_str.ensures.value at (rw c.as_slice.ensures.value at c.in-Err.ensures.refused) in (
      subst (λ (x : Command). MayRefuse (command_of x) s (Plan c.in-Err.fault)) (sym c.in-Verify.is) (verify_refused s _ _ c.in-Err.fault refused),
      as_it_was s,
    )

pub returns-in-Err-clause-stored : goal.returns-in-Err-clause-stored
returns-in-Err-clause-stored g c = stays_on g.S.Store c.args.command.now c.args.store.now _ _ _ tt (Plan c.in-Err.fault, refl) (λ _. refl)

pub returns-in-Err-prepare-clause-stored : goal.returns-in-Err-prepare-clause-stored
returns-in-Err-prepare-clause-stored g c = stays_on g.S.Store c.args.command.now c.args.store.now _ _ _ tt (c.in-Err-prepare.fault, refl) (no_verify c.args.command.now c.in-Act.action c.in-Act.is)

pub returns-in-Err-prepare-clause-keeps : goal.returns-in-Err-prepare-clause-keeps
returns-in-Err-prepare-clause-keeps g c = record { honest = λ h. h; kept = λ _ _. tt; later = omega arith; counted = session_counts _ _ c.in-Err-prepare.fault; steady = tt }

-- what is refused at once isn't prepared
none_at_once : (g : _) (c : In-Ok-prepare g) (result : Result Outcome PerformFault) → RefusesAtOnce (command_of c.args.command.now) c.args.session.now result
none_at_once g c result =
    let ready = c.in-Ok-prepare.ensures in
    record {
      early = λ fault is. absurd (ok_no_err _ _ (ready.early fault (ap (λ (x : Command). early_refusal_of c.args.session.now.folder.files (command_of x)) (sym c.in-Act.is) ∙ is)));
      nothing_to_undo = λ is none. absurd (ok_no_err _ _ (ready.nothing_to_undo (ap command_of (sym c.in-Act.is) ∙ is) none));
      nothing_to_redo = λ is none. absurd (ok_no_err _ _ (ready.nothing_to_redo (ap command_of (sym c.in-Act.is) ∙ is) none));
    }

pub returns-in_err-journals-clause-at_once : goal.returns-in_err-journals-clause-at_once
returns-in_err-journals-clause-at_once g c = none_at_once g (goal.at.returns-in_err-journals-clause-at_once g c).In-Ok-prepare _

pub returns-in_err-journals-clause-stored : goal.returns-in_err-journals-clause-stored
returns-in_err-journals-clause-stored g c =
    let p = err_from_is_err_and c.from_residual.result c.from_residual.ensures.1 in
    stays_on g.S.Store c.args.command.now c.args.store.now _ _ c.from_residual.result (IfOk-from_err c.from_residual.result _ c.from_residual.ensures.0) (rw p.1 (Plan Memory, p.2)) (no_verify c.args.command.now c.in-Act.action c.in-Act.is)

pub returns-in-Ok-write_down-clause-at_once : goal.returns-in-Ok-write_down-clause-at_once
returns-in-Ok-write_down-clause-at_once g c = none_at_once g (goal.at.returns-in-Ok-write_down-clause-at_once g c).In-Ok-prepare _

pub returns-in-Err-write_down-clause-at_once : goal.returns-in-Err-write_down-clause-at_once
returns-in-Err-write_down-clause-at_once g c = none_at_once g (goal.at.returns-in-Err-write_down-clause-at_once g c).In-Ok-prepare _

-- what was prepared, and the changes that were written
made_of : (g : _) (c : After-write_down g) → IsMadeReady (action_of c.in-Act.action) c.args.session.now c.in-Ok-prepare.prepared c.prepare.new.self
made_of g c = made_ready c.ready_changes_apply.ensures.applies (action_of c.in-Act.action) c.args.session.now c.in-Ok-prepare.prepared c.prepare.new.self c.in-Ok-prepare.ensures.kept c.in-Ok-prepare.ensures.ready c.folder-folder.ensures.walks

changed_so : (g : _) (c : After-write_down g) → map change_of c.changes.result.now ≡ changes_by_kind c.in-Ok-prepare.prepared.kind c.prepare.new.self
changed_so g c = c.changes.ensures ∙ (λ i. changes_by_kind (c.in_ok-journals.ensures.prepared i).kind (c.in_ok-journals.ensures.unchanged i))

spelled_so : (g : _) (c : After-write_down g) → SpellsReady c.in-Ok-prepare.prepared.kind c.prepare.new.self c.in_ok-journals.journals
spelled_so g c = c.in_ok-journals.ensures.spelled

-- wherever that stops
abbrev IsStop : (g : _) → After-write_down g → Contents → Type 0
IsStop g c left = IsStoppedAt (g.S.Store.contents c.args.store.now) c.in_ok-journals.journals (map change_of c.changes.result.now) left

stop_of : (g : _) (c : After-write_down g) (left : Contents) → IsStop g c left → IsStoppedAt (g.S.Store.contents c.args.store.now) c.in_ok-journals.journals (changes_by_kind c.in-Ok-prepare.prepared.kind c.prepare.new.self) left
stop_of g c left = subst (λ (cs : List defined.Change). IsStoppedAt (g.S.Store.contents c.args.store.now) c.in_ok-journals.journals cs left) (changed_so g c)

opens_so : (g : _) (c : After-write_down g) → (g.S.Store.contents c.args.store.now).files ≡ c.args.session.now.folder.files → FingerprintsDifferAlong (session_of_kept c.args.session.now) (command_of c.args.command.now) → (left : Contents) → IsStop g c left
    → OpensAsBeforeOrAfter (session_of_kept c.args.session.now) (command_of c.args.command.now) (g.S.Store.contents c.args.store.now) left
opens_so g c files apart left stop =
    let session = session_of_kept c.args.session.now in
    subst (λ (x : Command). OpensAsBeforeOrAfter session (command_of x) (g.S.Store.contents c.args.store.now) left) (sym c.in-Act.is)
    (stopped_opens (action_of c.in-Act.action) c.args.session.now c.in-Ok-prepare.prepared c.prepare.new.self (made_of g c) c.in_ok-journals.journals (spelled_so g c) (g.S.Store.contents c.args.store.now) files left (stop_of g c left stop)
    (subst (λ (x : Command). FingerprintsDifferAlong session (command_of x)) c.in-Act.is apart) c.in-Ok-prepare.ensures.leads)

possible_so : (g : _) (c : After-write_down g) → IsOn g.S.Store c.args.store.now c.args.session.now → g.S.Store.impossible c.write_down.new.store ≡ g.S.Store.impossible c.args.store.now
possible_so g c on = c.write_down.ensures.possible on.honest
    (ready_applies (action_of c.in-Act.action) c.args.session.now c.in-Ok-prepare.prepared c.prepare.new.self (made_of g c) (g.S.Store.contents c.args.store.now) on.files _ (changed_so g c))

-- by this number of writing calls
calls_so : (g : _) (c : After-write_down g) → calls_before c.in_ok-journals.journals.halfway + (length c.changes.result.now + 1) ≡ calls_requested (session_of_kept c.args.session.now) (command_of c.args.command.now)
calls_so g c =
    let old = c.args.session.now in
    ap (λ n. calls_before c.in_ok-journals.journals.halfway + (n + 1)) (sym (length-map c.changes.result.now change_of) ∙ ap length (changed_so g c))
    ∙ ready_calls (action_of c.in-Act.action) old c.in-Ok-prepare.prepared c.prepare.new.self (made_of g c) c.in_ok-journals.journals (spelled_so g c)
    ∙ requested_calls c.in-Act.action (session_of_kept old)
    ∙ ap (λ (x : Command). calls_requested (session_of_kept old) (command_of x)) (sym c.in-Act.is)

-- the store holds the session afterwards
pub returns-in-Ok-write_down-clause-stored : goal.returns-in-Ok-write_down-clause-stored
returns-in-Ok-write_down-clause-stored g c =
    let kind = c.in-Ok-prepare.prepared.kind in
    let mid = c.prepare.new.self in
    let at = (goal.at.returns-in-Ok-write_down-clause-stored g c).After-write_down in
    let journals = c.in_ok-journals.journals in
    let given = c.in-Act.action in
    let start = g.S.Store.contents c.args.store.now in
    let new = g.S.Store.contents c.write_down.new.store in
    let after : c.commit.new.self ≡ after_commit kind mid = c.commit.ensures.session ∙ (λ i. after_commit (c.in_ok-journals.ensures.prepared i).kind (c.in_ok-journals.ensures.unchanged i)) in
    record {
      verify = no_verify c.args.command.now given c.in-Act.is;
      unchanged = λ reason is. absurd (let no : ⊥ = cc is in no);
      written = λ on.
          let there : new ≡ after_write_down start journals (changes_by_kind kind mid) = c.in-Ok-write_down.ensures.done on.honest ∙ ap (after_write_down start journals) (changed_so g at) in
          let all : HoldsJournaled (session_of_kept (after_commit kind mid)) (after_write_down start journals (changes_by_kind kind mid)) =
          written_down (action_of given) c.args.session.now c.in-Ok-prepare.prepared mid (made_of g at) journals (spelled_so g at) start on.files in
          subst (λ (x : Command). IsWritten (command_of x) (session_of_kept c.commit.new.self) start new) (sym c.in-Act.is)
          (written_by given (session_of_kept c.commit.new.self) start new (rw (there, after) all));
      stopped = λ _ _. tt;
      cut = λ on durable apart left may. opens_so g at on.files apart left (c.write_down.ensures.remains on.honest durable left may);
      in_order = λ _. tt;
      possible = possible_so g at;
      calls = record { done = c.in-Ok-write_down.ensures.calls.done ∙ ap (λ n. g.S.Store.writing_calls c.args.store.now + n) (calls_so g at); refused = tt };
    }

-- the store failed
pub returns-in-Err-write_down-clause-stored : goal.returns-in-Err-write_down-clause-stored
returns-in-Err-write_down-clause-stored g c =
    let at = (goal.at.returns-in-Err-write_down-clause-stored g c).After-write_down in
    let start = g.S.Store.contents c.args.store.now in
    let new = g.S.Store.contents c.write_down.new.store in
    record {
      verify = no_verify c.args.command.now c.in-Act.action c.in-Act.is;
      unchanged = λ reason is. absurd (let no : ⊥ = cc is in no);
      written = λ _. tt;
      stopped = λ on apart. opens_so g at on.files apart new (c.in-Err-write_down.ensures.stopped on.honest);
      cut = λ on durable apart left may. opens_so g at on.files apart left (c.write_down.ensures.remains on.honest durable left may);
      in_order = λ honest.
          subst (λ (x : Command). IfOk (changes_requested (session_of_kept c.args.session.now) (command_of x)) (λ changes. (n : ℕ) × (new.files ≡ effects start.files (take n changes)))) (sym c.in-Act.is)
          (requested_in_order (action_of c.in-Act.action) c.args.session.now c.in-Ok-prepare.prepared c.prepare.new.self (made_of g at) start c.in_ok-journals.journals new (stop_of g at new (c.in-Err-write_down.ensures.stopped honest)));
      possible = possible_so g at;
      calls = record {
        done = tt;
        refused = subst (λ n. AreAtMost n (g.S.Store.writing_calls c.args.store.now) (g.S.Store.writing_calls c.write_down.new.store)) (calls_so g at) c.in-Err-write_down.ensures.calls.refused;
      };
    }
