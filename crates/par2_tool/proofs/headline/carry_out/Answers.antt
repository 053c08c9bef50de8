use Rattle.par2_tool.proofs.Names.{Err, ◌≡◌, ◌+◌, ◌<◌, inl, inr, arith, false, sym, ap, subst, ◌∙◌, err_from_is_err_and, le_trans, refl, by_either, Started, session_of_kept, command_of, calls_requested, outcome_of, failure_for, started_of, IsOpened, IsBack, IsCounted, IsFailed, IsResult, Failed, Failure, words_requested, LeavesStopped, opening_calls, perform_calls, run_calls, stands_calls, done_for, files_of, no_way_back, verify_failed, cut_of_command, opening_cause, opening_failed, perform_cause, perform_failed, stopped_opening}
use Rattle.par2_tool.proofs.headline.carry_out.Goals.{After-open_for, After-perform}
use Rattle.par2_tool.proofs.headline.carry_out.Goals as goal

pub returns-in_err-started-clause-failed : goal.returns-in_err-started-clause-failed
returns-in_err-started-clause-failed g c =
    let p = err_from_is_err_and c.from_residual.result c.from_residual.ensures.1 in
    let action = command_of c.args.command.now in
    let store = c.args.store.now in
    let opened = c.open_for.new.store in
    let old = g.S.Store.contents store in
    let opens = c.in_err-started.ensures.opens in
    let fault = c.in_err-started.field-0.0 in
    rw p.1 (subst (λ (f : Failure). IsResult g.S.Store action store opened (Failed (words_requested action) f)) (sym p.2) (
      refl,
      opening_cause action fault,
      c.in_err-started.ensures.keeps.counted,
      λ honest. (
        opening_failed action old (g.S.Store.contents opened) fault (opens honest).refused (opens honest).stopped,
        opening_calls action old _ _ fault (opens honest).calls,
      ),
    ))

pub returns-then-lacks_history-clause-failed : goal.returns-then-lacks_history-clause-failed
returns-then-lacks_history-clause-failed g c =
    let action = command_of c.args.command.now in
    let back = c.lacks_history.ensures.back c.if-lacks_history.true in
    let opened = c.in_ok-started.ensures in (
      refl,
      tt,
      opened.keeps.steady,
      λ honest.
          let counted = (opened.opens honest).calls in (
            by_either opened.opened.1 (λ same. inr (back, opened.opened.0, opened.opened.2 honest, ap (λ (t : Started). t.dropped) same ∙ sym (c.lacks_history.ensures.dropped back) ∙ c.if-lacks_history.true)) (λ verify. absurd (no_way_back action verify.0 back)),
            (counted.0, counted.1, counted.2.done),
          ),
    )

pub returns-clause-done : goal.returns-clause-done
returns-clause-done g c =
    let action = command_of c.args.command.now in
    let store = c.args.store.now in
    let old = g.S.Store.contents store in
    let opening = c.in_ok-started.ensures in
    let started = c.in_ok-started.started in
    let found = opening.opened in
    let performed = c.in_ok-outcome.ensures in
    let done =
    done_for (g.S.Store.honest store) old (g.S.Store.contents c.open_for.new.store) (g.S.Store.contents c.perform.new.store)
    found.0 (session_of_kept started.session) (session_of_kept c.perform.new.session) started.dropped (outcome_of c.in_ok-outcome.outcome) found.2
    action found.1 performed.done.answer performed.done.after performed.done.leads
    (λ honest files. performed.stored.written (record { honest = opening.keeps.honest honest; files = files })) in (
      done.0,
      done.1,
      (
        performed.keeps.steady ∙ opening.keeps.steady,
        (session_of_kept started.session, performed.done.answer),
        λ honest.
            let counted = (opening.opens honest).calls in
            let run = run_calls action old (g.S.Store.writing_calls store) (g.S.Store.writing_calls c.open_for.new.store) (g.S.Store.writing_calls c.perform.new.store) counted.0 found.0 (session_of_kept started.session) counted.1 (found.2 honest).opens counted.2.done (stands_calls action found.0 (started_of started) found.1) in
            (done.2 honest, counted.0 + calls_requested (session_of_kept started.session) action, run, omega (arith, counted.2.done, performed.stored.calls.done)),
      ),
    )

pub returns-in_err-outcome-clause-failed : goal.returns-in_err-outcome-clause-failed
returns-in_err-outcome-clause-failed g c =
    let action = command_of c.args.command.now in
    let store = c.args.store.now in
    let opened = c.open_for.new.store in
    let after = c.perform.new.store in
    let old = g.S.Store.contents store in
    let mid = g.S.Store.contents opened in
    let new = g.S.Store.contents after in
    let opening = c.in_ok-started.ensures in
    let started = c.in_ok-started.started in
    let found = opening.opened in
    let performed = c.in_err-outcome.ensures in
    let fault = c.in_err-outcome.field-0.0 in
    let back : IsBack action → started.dropped ≡ false = (λ is. sym (c.lacks_history.ensures.dropped is) ∙ c.if-lacks_history.false) in
    let failing : g.S.Store.honest store → IsFailed action old new (failure_for fault) = (λ honest. elim found.1 as (λ _. IsFailed action old new (failure_for fault)) [
      | inl same ↦ (
          let there : IsOpened old mid (started_of started) = subst (λ (t : Started). IsOpened old mid t) same (found.2 honest) in
          perform_failed action old mid new started.session c.perform.new.session started.dropped there back
          fault performed.refused (λ reason is. ap g.S.Store.contents (performed.stored.unchanged reason (ap Err is))) (performed.stored.stopped (record { honest = opening.keeps.honest honest; files = there.holds.files })))
      | inr verify ↦ verify_failed action old mid new found.0 started.session c.perform.new.session verify.0 verify.1 (found.2 honest)
          (ap g.S.Store.contents (c.perform.ensures.stored.verify verify.0).0) fault performed.refused
    ]) in
    let p = err_from_is_err_and c.from_residual-in_err-outcome.result c.from_residual-in_err-outcome.ensures.1 in
    rw p.1 (subst (λ (f : Failure). IsResult g.S.Store action store after (Failed (words_requested action) f)) (sym p.2) (
      refl,
      perform_cause action started.session c.perform.new.session fault performed.refused,
      subst (λ n. IsCounted (n < g.S.Store.failures after) n (g.S.Store.failures after) (failure_for fault)) opening.keeps.steady performed.keeps.counted,
      λ honest.
          let counted = (opening.opens honest).calls in (
            failing honest,
            perform_calls action old (g.S.Store.writing_calls store) (g.S.Store.writing_calls opened) (g.S.Store.writing_calls after) counted.0 found.0 (session_of_kept started.session) counted.1 (found.2 honest).opens counted.2.done (stands_calls action found.0 (started_of started) found.1) fault performed.stored.calls.refused,
          ),
    ))

pub returns-clause-later : goal.returns-clause-later
returns-clause-later g c = le_trans c.in_ok-started.ensures.keeps.later c.in_ok-outcome.ensures.keeps.later

pub returns-in_err-outcome-clause-later : goal.returns-in_err-outcome-clause-later
returns-in_err-outcome-clause-later g c = le_trans c.in_ok-started.ensures.keeps.later c.in_err-outcome.ensures.keeps.later

-- of the opening
opening_cut : (g : _) (c : After-open_for g) → LeavesStopped g.S.Store (command_of c.args.command.now) c.args.store.now c.open_for.new.store
opening_cut g c honest durable left may =
    stopped_opening (command_of c.args.command.now) (g.S.Store.contents c.args.store.now) left (λ back. (c.open_for.ensures.opens honest).cut durable back left may)

pub returns-in_err-started-clause-cut : goal.returns-in_err-started-clause-cut
returns-in_err-started-clause-cut g c = opening_cut g (goal.at.returns-in_err-started-clause-cut g c).After-open_for

pub returns-then-lacks_history-clause-cut : goal.returns-then-lacks_history-clause-cut
returns-then-lacks_history-clause-cut g c = opening_cut g (goal.at.returns-then-lacks_history-clause-cut g c).After-open_for

-- of the command
command_cut : (g : _) (c : After-perform g) → LeavesStopped g.S.Store (command_of c.args.command.now) c.args.store.now c.perform.new.store
command_cut g c honest durable left may =
    let opening = c.in_ok-started.ensures in
    let found = opening.opened in
    cut_of_command (g.S.Store.honest c.args.store.now) (command_of c.args.command.now) (g.S.Store.contents c.args.store.now) (g.S.Store.contents c.open_for.new.store) left found.0 (started_of c.in_ok-started.started)
    honest found.1 found.2
    (λ files along. c.perform.ensures.stored.cut (record { honest = opening.keeps.honest honest; files = files }) (opening.keeps.kept honest durable) along left may)
    (λ verify. opening.keeps.kept honest durable left (subst (λ store. g.S.Store.crash_states store left) (c.perform.ensures.stored.verify verify).0 may))

pub returns-clause-cut : goal.returns-clause-cut
returns-clause-cut g c = command_cut g (goal.at.returns-clause-cut g c).After-perform

pub returns-in_err-outcome-clause-cut : goal.returns-in_err-outcome-clause-cut
returns-in_err-outcome-clause-cut g c = command_cut g (goal.at.returns-in_err-outcome-clause-cut g c).After-perform

possible_so : (g : _) (c : After-perform g) → g.S.Store.honest c.args.store.now → g.S.Store.impossible c.perform.new.store ≡ g.S.Store.impossible c.args.store.now
possible_so g c honest =
    let opening = c.in_ok-started.ensures in
    let found = opening.opened in
    let on = files_of (command_of c.args.command.now) (g.S.Store.contents c.args.store.now) (g.S.Store.contents c.open_for.new.store) found.0 (started_of c.in_ok-started.started) found.1 (found.2 honest) in
    c.perform.ensures.stored.possible (record { honest = opening.keeps.honest honest; files = on }) ∙ (opening.opens honest).possible

pub returns-clause-possible : goal.returns-clause-possible
returns-clause-possible g c = possible_so g (goal.at.returns-clause-possible g c).After-perform

pub returns-in_err-outcome-clause-possible : goal.returns-in_err-outcome-clause-possible
returns-in_err-outcome-clause-possible g c = possible_so g (goal.at.returns-in_err-outcome-clause-possible g c).After-perform

pub returns-clause-honest : goal.returns-clause-honest
returns-clause-honest g c honest = c.in_ok-outcome.ensures.keeps.honest (c.in_ok-started.ensures.keeps.honest honest)

pub returns-in_err-outcome-clause-honest : goal.returns-in_err-outcome-clause-honest
returns-in_err-outcome-clause-honest g c honest = c.in_err-outcome.ensures.keeps.honest (c.in_ok-started.ensures.keeps.honest honest)

pub returns-in_err-started-clause-possible : goal.returns-in_err-started-clause-possible
returns-in_err-started-clause-possible g c honest = (c.in_err-started.ensures.opens honest).possible

pub returns-then-lacks_history-clause-possible : goal.returns-then-lacks_history-clause-possible
returns-then-lacks_history-clause-possible g c honest = (c.in_ok-started.ensures.opens honest).possible
