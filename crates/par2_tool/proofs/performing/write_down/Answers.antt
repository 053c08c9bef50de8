use Rattle.par2_tool.proofs.Names.{◌≡◌, IsTrue, subst, map, arith, refl, IfOk-from_err, ap, sym, ◌∙◌, take_all, length, are_applicable, Contents, with_change, with_journal, on_err_weaker, on_ok_weaker, change_of, with_all_changes, IsStoppedAt, any_err, any_ok, applicable_here, begun_remains, ended_remains, made_next, next_remains, some_crash_states, halfway_files}
use Rattle.par2_tool.proofs.performing.write_down.Goals.{In_ok-begin}
use Rattle.par2_tool.proofs.performing.write_down.Goals as goal

-- the halfway journal is put
pub returns-in_err-begin : goal.returns-in_err-begin
returns-in_err-begin g c =
    let old = g.S.Store.contents c.args.store.now in
    let new = g.S.Store.contents c.begin.new.store in
    let journals = c.args.journals.now in
    let changes = map change_of c.args.changes.now in
    let failed = c.in_err-begin.ensures in
    record {
      keeps = record {
        honest = c.begin.ensures.keeps.honest;
        kept = λ _ _. IfOk-from_err c.from_residual.result _ c.from_residual.ensures.0;
        later = c.begin.ensures.keeps.later;
        counted = any_err c.from_residual.result _ failed.keeps.counted;
        steady = IfOk-from_err c.from_residual.result _ c.from_residual.ensures.0;
      };
      done = λ h. IfOk-from_err c.from_residual.result _ c.from_residual.ensures.0;
      stopped = λ h. any_err c.from_residual.result (IsStoppedAt old journals changes new) (begun_remains old journals changes new (failed.stopped h));
      remains = λ h durable left may. begun_remains old journals changes left (c.begin.ensures.remains h durable left may);
      possible = λ h all. c.begin.ensures.possible h (unfold are_applicable in refl);
      calls = record {
        done = IfOk-from_err c.from_residual.result _ c.from_residual.ensures.0;
        refused = any_err c.from_residual.result _ (let most = failed.calls.refused in record { later = most.later; within = omega (arith, most.within) });
      };
    }

-- the changes apply after it, too
applies_still : (g : _) (c : In_ok-begin g) → g.S.Store.honest c.args.store.now → IsTrue (are_applicable (g.S.Store.contents c.args.store.now).files (map change_of c.args.changes.now))
    → IsTrue (are_applicable (g.S.Store.contents c.begin.new.store).files (map change_of c.args.changes.now))
applies_still g c h =
    let files = ap (λ (k : Contents). k.files) (c.in_ok-begin.ensures.done h) ∙ halfway_files (g.S.Store.contents c.args.store.now) c.args.journals.now.halfway in
    subst (λ f. IsTrue (are_applicable f (map change_of c.args.changes.now))) (sym files)

pub returns-in_err-write_change : goal.returns-in_err-write_change
returns-in_err-write_change g c =
    let old = g.S.Store.contents c.args.store.now in
    let mid = g.S.Store.contents c.begin.new.store in
    let journals = c.args.journals.now in
    let changes = c.args.changes.now in
    let item = c.change-item.result in
    let begun = c.in_ok-begin.ensures in
    let held = c.loop-change.invariant in
    let call = c.write_change.ensures in
    let between = next_remains mid (g.S.Store.contents c.loop-change.store) in
    let result = c.from_residual-in_err-write_change.result in
    let none = λ (P : Type 0). IfOk-from_err result (λ _. P) c.from_residual-in_err-write_change.ensures.0 in
    record {
      keeps = record {
        honest = λ h. call.writes.honest (held.honest (begun.keeps.honest h));
        kept = λ _ _. none _;
        later = omega (arith, begun.keeps.steady, held.later, call.failures.later);
        counted = any_err result _ (omega (arith, begun.keeps.steady, held.steady, c.in_err-write_change.ensures.failures.cause));
        steady = none _;
      };
      done = λ _. none _;
      stopped = λ h.
          let on = begun.keeps.honest h in
          any_err result _ (some_crash_states old journals (map change_of changes) mid _ (begun.done h)
          (between _ changes c.loop-change.change-index item c.loop-change-test.true c.change-item.is (held.made on) (c.in_err-write_change.ensures.writes.all_or_none (held.honest on))));
      remains = λ h durable left may.
          let on = begun.keeps.honest h in
          some_crash_states old journals (map change_of changes) mid left (begun.done h)
          (between left changes c.loop-change.change-index item c.loop-change-test.true c.change-item.is (held.made on) (call.writes.remains (held.honest on) (held.durable on (begun.keeps.kept h durable)) left may));
      possible = λ h applies.
          let on = begun.keeps.honest h in
          let all = applies_still g (goal.at.returns-in_err-write_change g c).In_ok-begin h applies in
          c.in_err-write_change.ensures.possible (held.honest on) (applicable_here _ _ _ _ item (held.made on) c.loop-change-test.true c.change-item.is all)
          ∙ held.possible on all ∙ begun.possible h (unfold are_applicable in refl);
      calls = record {
        done = none _;
        refused = any_err result _ (record {
          later = omega (arith, begun.calls.done, held.counted, call.counted);
          within = omega (arith, begun.calls.done, held.counted, call.counted, c.loop-change-test.true);
        });
      };
    }

pub returns : goal.returns
returns g c =
    let old = g.S.Store.contents c.args.store.now in
    let mid = g.S.Store.contents c.begin.new.store in
    let made = g.S.Store.contents c.loop-change.store in
    let journals = c.args.journals.now in
    let changes = map change_of c.args.changes.now in
    let begun = c.in_ok-begin.ensures in
    let held = c.loop-change.invariant in
    let put = c.put_journal.ensures.put.writes in
    let all : g.S.Store.honest c.begin.new.store → made ≡ with_all_changes mid changes = (λ on. held.made on ∙ ap (λ cs. with_all_changes mid (map change_of cs)) (take_all c.loop-change.change-index c.args.changes.now c.loop-change-test.false)) in
    let whole : c.loop-change.change-index ≡ length c.args.changes.now = omega (arith, held.within, c.loop-change-test.false) in
    record {
      keeps = record {
        honest = λ h. put.honest (held.honest (begun.keeps.honest h));
        kept = λ h _. put.durable (held.honest (begun.keeps.honest h));
        later = omega (arith, begun.keeps.steady, held.steady, c.put_journal.ensures.put.failures.later);
        counted = on_err_weaker c.put_journal.result (λ less. omega (arith, less, begun.keeps.steady, held.steady)) c.put_journal.ensures.put.failures.cause;
        steady = on_ok_weaker c.put_journal.result (λ same. same ∙ held.steady ∙ begun.keeps.steady) c.put_journal.ensures.put.failures.steady;
      };
      done = λ h.
          on_ok_weaker c.put_journal.result (λ e. e ∙ ap (λ k. with_journal k journals.after.items) (all (begun.keeps.honest h) ∙ ap (λ k. with_all_changes k changes) (begun.done h)))
          (rw c.deref.ensures.value at (put.done (held.honest (begun.keeps.honest h))));
      stopped = λ h.
          let either = rw c.deref.ensures.value at (put.all_or_none (held.honest (begun.keeps.honest h))) in
          on_err_weaker c.put_journal.result (ended_remains old journals changes mid made _ (begun.done h) (all (begun.keeps.honest h))) either;
      remains = λ h durable left may.
          let on = begun.keeps.honest h in
          let either = rw c.deref.ensures.value at (put.remains (held.honest on) (held.durable on (begun.keeps.kept h durable)) left may) in
          ended_remains old journals changes mid made left (begun.done h) (all on) either;
      possible = λ h applies.
          let all = applies_still g (goal.at.returns g c).In_ok-begin h applies in
          c.put_journal.ensures.put.possible ∙ held.possible (begun.keeps.honest h) all ∙ begun.possible h (unfold are_applicable in refl);
      calls =
          let number = c.put_journal.ensures.put.counted in
          record {
            done = any_ok c.put_journal.result _ (omega (arith, number, held.counted, whole, begun.calls.done));
            refused = any_err c.put_journal.result _ (record { later = omega (arith, number, held.counted, begun.calls.done); within = omega (arith, number, held.counted, whole, begun.calls.done) });
          };
    }

pub loop-change-preserved : goal.loop-change-preserved
loop-change-preserved g c =
    let held = c.loop-change.invariant in
    let item = c.change-item.result in
    let call = c.in_ok-write_change.ensures.writes in
    record {
      honest = λ h. call.honest (held.honest h);
      made = λ h.
          call.done (held.honest h)
          ∙ ap (λ (k : Contents). with_change k (change_of item)) (held.made h)
          ∙ made_next (g.S.Store.contents c.begin.new.store) c.args.changes.now c.loop-change.change-index item c.loop-change-test.true c.change-item.is;
      durable = λ h _. call.durable (held.honest h);
      later = omega (arith, held.later, c.write_change.ensures.failures.later);
      steady = c.in_ok-write_change.ensures.failures.steady ∙ held.steady;
      possible = λ h all.
          c.in_ok-write_change.ensures.possible (held.honest h) (applicable_here _ _ _ _ item (held.made h) c.loop-change-test.true c.change-item.is all) ∙ held.possible h all;
      counted = omega (arith, held.counted, c.write_change.ensures.counted);
      within = omega (arith, c.loop-change-test.true);
    }
