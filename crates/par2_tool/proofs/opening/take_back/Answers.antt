use Rattle.par2_tool.proofs.Names.{inl, refl, ◌≡◌, IsTrue, map, length, sym, ap, subst, ◌∙◌, arith, None, length-map, are_applicable, session_of_kept, change_of, session_before, way_left, err_from_is_err_and, with_journal, with_all_changes, Contents, IsStillHalfway, IsStoppedAt, still_halfway}
use Rattle.par2_tool.proofs.opening.take_back.Goals.{After-write_down}
use Rattle.par2_tool.proofs.opening.take_back.Goals as goal

-- wherever it stops
still_so : (g : _) (c : After-write_down g) (left : Contents) → IsStoppedAt (g.S.Store.contents c.args.store.now) (record { halfway = None; after = c.in_ok-settled.field-0 }) (map change_of c.changes.result.now) left
    → IsStillHalfway (session_of_kept (session_before c.args.halfway)) (way_left c.args.halfway) (g.S.Store.contents c.args.store.now) left
still_so g c left stop =
    let old = g.S.Store.contents c.args.store.now in
    let session = session_of_kept (session_before c.args.halfway) in
    subst (λ changes. IsStillHalfway session changes old left) c.changes.ensures (still_halfway old left session (map change_of c.changes.result.now) c.in_ok-settled.field-0 c.in_ok-settled.ensures stop)

pub returns-in_err-settled-clause-taken : goal.returns-in_err-settled-clause-taken
returns-in_err-settled-clause-taken g c honest =
    let p = err_from_is_err_and c.from_residual.result c.from_residual.ensures.1 in
    rw (p.1, p.2) (record {
      done = tt;
      stopped = inl (0, omega arith, refl);
      remains = λ durable left may. inl (0, omega arith, durable left may);
      refused = refl;
      possible = λ _. refl;
      calls = record { done = tt; refused = refl };
    })

-- the writing calls of the way back
way_length : (g : _) (c : After-write_down g) → length c.changes.result.now ≡ length (way_left c.args.halfway)
way_length g c = sym (length-map c.changes.result.now change_of) ∙ ap length c.changes.ensures

pub returns-in-Ok-clause-taken : goal.returns-in-Ok-clause-taken
returns-in-Ok-clause-taken g c honest =
    let number = way_length g (goal.at.returns-in-Ok-clause-taken g c).After-write_down in
    record {
      done = (c.in_ok-settled.field-0.items, c.in_ok-settled.ensures, c.in-Ok.ensures.done honest ∙ ap (λ changes. with_journal (with_all_changes (g.S.Store.contents c.args.store.now) changes) c.in_ok-settled.field-0.items) c.changes.ensures);
      stopped = tt;
      remains = λ durable left may. still_so g (goal.at.returns-in-Ok-clause-taken g c).After-write_down left (c.write_down.ensures.remains honest durable left may);
      refused = tt;
      possible = λ all. c.write_down.ensures.possible honest (subst (λ changes. IsTrue (are_applicable (g.S.Store.contents c.args.store.now).files changes)) (sym c.changes.ensures) all);
      calls = record { done = omega (arith, c.in-Ok.ensures.calls.done, number); refused = tt };
    }

pub returns-in-Err-clause-taken : goal.returns-in-Err-clause-taken
returns-in-Err-clause-taken g c honest =
    let number = way_length g (goal.at.returns-in-Err-clause-taken g c).After-write_down in
    let most = c.in-Err.ensures.calls.refused in
    record {
      done = tt;
      stopped = still_so g (goal.at.returns-in-Err-clause-taken g c).After-write_down _ (c.in-Err.ensures.stopped honest);
      remains = λ durable left may. still_so g (goal.at.returns-in-Err-clause-taken g c).After-write_down left (c.write_down.ensures.remains honest durable left may);
      refused = tt;
      possible = λ all. c.write_down.ensures.possible honest (subst (λ changes. IsTrue (are_applicable (g.S.Store.contents c.args.store.now).files changes)) (sym c.changes.ensures) all);
      calls = record { done = tt; refused = record { later = most.later; within = omega (arith, most.within, number) } };
    }
