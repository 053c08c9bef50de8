use Rattle.par2_journal_format.proofs.Names.{◌+◌, drop, sym, ap, ◌∙◌, subst, false≢true, change_of, changes_in, effect, AreNamesOf, names_in}
use Rattle.par2_journal_format.proofs.TriedNames.{sets_out, goes_on, here, ends, tried, change_made, change_refused, all_made}
use Rattle.par2_journal_format.proofs.walking.Names.go_along.Goals as goal

pub loop-change-init : goal.loop-change-init
loop-change-init c files are = sets_out change_of tried files c.args.changes.now _ are

pub returns-then-not-can_take : goal.returns-then-not-can_take
returns-then-not-can_take c files are =
    let so_far = c.loop-change.invariant files are in
    let item = c.change-item.result in
    let others = drop (c.loop-change.change-index + 1) (changes_in c.args.changes.now) in
    record {
      reported = change_refused so_far.now (change_of item) others (sym (c.can_take.ensures so_far.now so_far.are) ∙ c.if-not-can_take.true)
          ∙ ap (λ t. t.0) (here change_of tried files c.args.changes.now _ _ so_far c.loop-change-test.true item c.change-item.is);
      are = λ h. absurd (false≢true h);
    }

pub loop-change-preserved : goal.loop-change-preserved
loop-change-preserved c files are =
    let so_far = c.loop-change.invariant files are in
    let item = c.change-item.result in
    goes_on change_of tried files c.args.changes.now _ _ so_far c.loop-change-test.true item c.change-item.is (effect so_far.now (change_of item)) _ (c.in_ok-take.ensures so_far.now so_far.are)
    (change_made so_far.now (change_of item) _ (sym (c.can_take.ensures so_far.now so_far.are) ∙ c.if-not-can_take.false))

pub returns : goal.returns
returns c files are =
    let so_far = c.loop-change.invariant files are in
    let end = sym (all_made so_far.now) ∙ ends change_of tried files c.args.changes.now _ _ so_far c.loop-change-test.false in
    record { reported = ap (λ t. t.0) end; are = λ _. subst (λ f. AreNamesOf f (names_in c.loop-change.self)) (ap (λ t. t.1) end) so_far.are }
