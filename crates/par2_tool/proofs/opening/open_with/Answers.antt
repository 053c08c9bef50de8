use Rattle.par2_tool.proofs.Names.{inl, IfOk-from_err, Ok, refl, sym, subst, rules, Halfway, Opens, KeptSession, session_of_kept, opened_of, session_before, way_left, OpensAsBefore, with_history, IsOpened, back_calls, any_err, counted_without, holds_settled, opened_taken_back, opens_still, opens_without, unopened_without, way_applies, stays_keeps, stays_opens}
use Rattle.par2_tool.proofs.opening.open_with.Goals.{In-Halfway}
use Rattle.par2_tool.proofs.opening.open_with.Goals as goal

-- what is to be taken back
opens_so : (g : _) (c : In-Halfway g) → Opens c.args.folder.files c.args.bytes.now (Ok (Halfway (session_of_kept (session_before c.in-Halfway.halfway)) (way_left c.in-Halfway.halfway)))
opens_so g c = subst (λ found. Opens c.args.folder.files c.args.bytes.now (Ok (opened_of found))) c.in-Halfway.is c.in-Ok.ensures.opened

-- the journal is refused
pub returns-in-Err-clause-opens : goal.returns-in-Err-clause-opens
returns-in-Err-clause-opens g c honest read = (
  opens_without _ _ _ c.in-Err.fault c.without_journal.result _ c.in-Err.ensures.files c.without_journal.ensures.started c.without_journal.ensures.unopened c.without_journal.ensures.refused read c.in-Err.ensures.refused,
  stays_opens g.S.Store c.args.store.now c.without_journal.result
      (unopened_without _ _ _ c.in-Err.fault c.without_journal.result _ c.in-Err.ensures.files c.without_journal.ensures.started c.without_journal.ensures.unopened c.without_journal.ensures.refused read c.in-Err.ensures.refused),
)

pub returns-in-Err-clause-keeps : goal.returns-in-Err-clause-keeps
returns-in-Err-clause-keeps g c =
    stays_keeps g.S.Store c.args.store.now c.without_journal.result
    (counted_without (g.S.Store.contents c.args.store.now) _ c.args.bytes.now c.in-Err.fault c.without_journal.result _ c.in-Err.ensures.files c.without_journal.ensures.started c.without_journal.ensures.unopened c.without_journal.ensures.refused _)

pub returns-in-Settled-clause-opens : goal.returns-in-Settled-clause-opens
returns-in-Settled-clause-opens g c honest read =
    let opens = subst (λ found. Opens c.args.folder.files c.args.bytes.now (Ok (opened_of found))) c.in-Settled.is c.in-Ok.ensures.opened in
    let holds = holds_settled (g.S.Store.contents c.args.store.now) c.args.folder.files c.args.bytes.now (session_of_kept c.in-Settled.session) read opens in
    (record { opens = holds.opens; holds = holds; left = inl refl }, stays_opens g.S.Store c.args.store.now _ tt)

-- a halfway command is taken back, or not
pub returns-in_err-session-in-Halfway-clause-opens : goal.returns-in_err-session-in-Halfway-clause-opens
returns-in_err-session-in-Halfway-clause-opens g c honest read =
    let old = g.S.Store.contents c.args.store.now in
    let files = c.args.folder.files in
    let bytes = c.args.bytes.now in
    let session = session_of_kept (session_before c.in-Halfway.halfway) in
    let back = way_left c.in-Halfway.halfway in
    let opens = opens_so g (goal.at.returns-in_err-session-in-Halfway-clause-opens g c).In-Halfway in
    let taken = c.take_back.ensures.taken honest in (
      IfOk-from_err c.from_residual.result _ c.from_residual.ensures.0,
      record {
        refused = search rules;
        stopped = λ apart.
            any_err c.from_residual.result (OpensAsBefore old (g.S.Store.contents c.take_back.new.store))
            (opens_still old (g.S.Store.contents c.take_back.new.store) files bytes session back read opens apart (c.in_err-session-in-Halfway.ensures.taken honest).stopped);
        cut = λ durable apart left may. opens_still old left files bytes session back read opens apart (taken.remains durable left may);
        possible = taken.possible (way_applies old files bytes session back read opens);
        calls = back_calls old files bytes session back _ _ c.from_residual.result read opens (search rules);
      },
    )

pub returns-in_ok-session-in-Halfway-clause-opens : goal.returns-in_ok-session-in-Halfway-clause-opens
returns-in_ok-session-in-Halfway-clause-opens g c honest read =
    let old = g.S.Store.contents c.args.store.now in
    let files = c.args.folder.files in
    let bytes = c.args.bytes.now in
    let session = session_of_kept (session_before c.in-Halfway.halfway) in
    let back = way_left c.in-Halfway.halfway in
    let opens = opens_so g (goal.at.returns-in_ok-session-in-Halfway-clause-opens g c).In-Halfway in
    let taken = c.take_back.ensures.taken honest in
    let arm = c.in_ok-session-in-Halfway.ensures in (
      subst (λ (s : KeptSession). IsOpened old (g.S.Store.contents c.take_back.new.store) (with_history (session_of_kept s))) (sym arm.session)
          (opened_taken_back old (g.S.Store.contents c.take_back.new.store) files bytes session back read opens (arm.taken honest).done),
      record {
        refused = tt;
        stopped = λ _. tt;
        cut = λ durable apart left may. opens_still old left files bytes session back read opens apart (taken.remains durable left may);
        possible = taken.possible (way_applies old files bytes session back read opens);
        calls = back_calls old files bytes session back _ _ _ read opens (record { done = (arm.taken honest).calls.done; refused = tt });
      },
    )
