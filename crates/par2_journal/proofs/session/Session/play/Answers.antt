use Rattle.par2_journal.proofs.Names.{◌≡◌, ◌+◌, map, sym, subst, arith, action_of, Execution, Ended, session_of_kept, history_of, run_leaves, walked_is_valid, give_back, none_left, on_accepted, on_refused}
use Rattle.par2_journal.proofs.session.Session.play.Goals.{then-act, else-act}
use Rattle.par2_journal.proofs.session.Session.play.Goals as goal

pub loop-action-preserved : goal.loop-action-preserved
loop-action-preserved c =
    let actions = c.args.actions.now in
    let i = c.loop-action.action-index in
    let within = c.loop-action-test.true in
    let so_far = c.loop-action.invariant in
    let start = history_of (session_of_kept c.args.self.now) in
    elim c.if-act.branch [
      | then-act w ↦ rw w.accepted-is (record {
        counted = omega (arith, so_far.counted);
        run = on_accepted actions i within c.action-item.result c.action-item.is start c.loop-action.self c.act.new.self c.loop-action.accepted so_far.run
            (c.act.ensures.leads w.if-act.true) c.act.ensures.walks (c.act.ensures.done w.if-act.true);
      })
      | else-act w ↦ rw w.accepted-is (record {
        counted = omega (arith, so_far.counted);
        run = on_refused actions i within c.action-item.result c.action-item.is start c.loop-action.self c.act.new.self c.loop-action.accepted so_far.run
            (c.act.ensures.may w.if-act.false) (c.act.ensures.unchanged w.if-act.false);
      })
    ]

pub returns-clause-run : goal.returns-clause-run
returns-clause-run c =
    let actions = c.args.actions.now in
    let all = map action_of actions in
    let i = c.loop-action.action-index in
    let start = history_of (session_of_kept c.args.self.now) in
    let here = history_of (session_of_kept c.loop-action.self) in
    let n = c.loop-action.accepted in
    let sum : n + 0 ≡ n = omega arith in
    let run : Execution start all n here = subst (λ m. Execution start all m here) sum (c.loop-action.invariant.run 0 here (subst (λ l. Execution here l 0 here) (sym (none_left actions i c.loop-action-test.false)) Ended)) in
    run

pub returns-clause-undos : goal.returns-clause-undos
returns-clause-undos c changing =
    run_leaves (history_of (session_of_kept c.args.self.now)) (history_of (session_of_kept c.loop-action.self)) (map action_of c.args.actions.now) c.loop-action.accepted (returns-clause-run c) changing

pub returns-clause-back : goal.returns-clause-back
returns-clause-back c changing =
    give_back c.loop-action.accepted c.args.self.now c.loop-action.self (walked_is_valid c.loop-action.self c.folder-folder.ensures.walks) (returns-clause-undos c changing)
