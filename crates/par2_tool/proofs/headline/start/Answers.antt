use Rattle.par2_tool.proofs.Names.{◌∙◌, ◌≡◌, Result, Ok, Err, [], inr, refl, subst, drop, map, string_bytes, Failed, IsUnread, IfOk, IsOk, IfOk-weaker, IfErr-weaker, IsRun, IsShown, into_iter_items, error_kind, failure_of_kind}
use Rattle.par2_tool.proofs.headline.start.Goals as goal

-- what holds of all arguments holds of those that were given
where_given : {A E : Type 0} (given : Result A E) (P : A → Type 0) → (IsOk given → (args : A) → P args) → IfOk given P
where_given (Ok args) P all = all refl args
where_given (Err error) P all = tt

pub returns-in-Ok-clause-run : goal.returns-in-Ok-clause-run
returns-in-Ok-clause-run g c =
    IfOk-weaker c.args.given _ _
    (λ args is. subst
    (λ words. IsRun g.S.Store g.O.Write.contents g.E.Write.contents (map string_bytes words) c.args.store.now c.run.new.store c.args.out.now c.run.new.out c.args.err.now c.run.new.err c.run.result)
    (c.as_slice.ensures.value ∙ is) c.run.ensures.reported)
    c.in-Ok.ensures.words

pub returns-in-Err-clause-run : goal.returns-in-Err-clause-run
returns-in-Err-clause-run g c =
    where_given c.args.given _
    (λ given args.
    let unread : IsUnread (map string_bytes (drop 1 (into_iter_items args))) c.in-Err.failure = inr (c.in-Err.ensures.whole given) in
    record {
      run_result = Failed [] c.in-Err.failure;
      reported = inr (c.in-Err.failure, refl, unread, refl {a = c.args.store.now});
      shown = (c.fail.ensures, refl {a = c.args.out.now});
    })

pub returns-in-Err-clause-refused : goal.returns-in-Err-clause-refused
returns-in-Err-clause-refused g c =
    IfErr-weaker c.args.given _ _
    (λ error known.
    let same : c.in-Err.failure ≡ failure_of_kind (error_kind error) = (let is = known in cc) in (
      subst
          (λ reason. IsShown (Failed [] reason) g.O.Write.contents c.args.out.now c.args.out.now g.E.Write.contents c.args.err.now c.fail.new.err c.fail.result)
          same (c.fail.ensures, refl {a = c.args.out.now}),
      refl {a = c.args.store.now},
    ))
    c.in-Err.ensures.refused
