use Rattle.par2_files.proofs.Names.{arith, ◌≡◌, ◌+◌, ◌∙◌, Bool, true, false, [], ◌∷◌, IsTrue, ap, cond, map, subst, sym, append-nil, are_applicable, change_of, bytes_before, touches, group_buffers, AreTo, HaveAbsorbed, folder_in, absorbed_here, arrived, goes_on, in_range, next_applicable, parents_then}
use Rattle.par2_files.proofs.walk.absorbing_before.Goals.{After-is_after-in-loop-change, then-is_after, else-is_after, then-is_after-2+in_ok-pending_between+in_ok-push, else-is_after-2}
use Rattle.par2_files.proofs.walk.absorbing_before.Goals as goal

pub loop-change-init : goal.loop-change-init
loop-change-init c =
    let states = c.args.states.now in
    let changes = map change_of c.args.changes.now in
    let here = folder_in c.in_ok-snapshot.snapshot in
    let folder : here ≡ c.args.folder.now.files = c.in_ok-snapshot.ensures in
    let absorbed : HaveAbsorbed states (group_buffers c.args.from here changes) = subst (λ f. HaveAbsorbed states (group_buffers c.args.from f changes)) (sym folder) c.requires.absorbed in
    record {
      applicable = subst (λ f. IsTrue (are_applicable f changes)) (sym folder) c.requires.applicable;
      parents = absorbed;
      done = bytes_before c.args.to here ∷ [];
      reached = c.in_ok-absorbing.ensures _ (c.in_ok-first.ensures (absorbed_here states 0 _ _ _ absorbed));
      whole = ap (λ f. group_buffers c.args.to f changes) folder;
    }

pub apply-requires : goal.apply-requires
apply-requires c = next_applicable c.loop-change.invariant c.loop-change-test.true c.change-item.is

-- the next state, if the change touches a name before the split `from`
place : (c : After-is_after-in-loop-change) → c.if-is_after.place ≡ cond (touches c.args.from (change_of c.change-item.result)) (c.loop-change.place + 1) c.loop-change.place
place c =
    let at = λ (t : Bool). cond t (c.loop-change.place + 1) c.loop-change.place in
    elim c.if-is_after.branch [
      | then-is_after w ↦ w.place-is ∙ sym (ap at (sym c.is_after.ensures ∙ w.if-is_after.true))
      | else-is_after w ↦ w.place-is ∙ sym (ap at (sym c.is_after.ensures ∙ w.if-is_after.false))
    ]

pub bounds-states-place : goal.bounds-states-place
bounds-states-place c =
    let walk = c.loop-change in
    in_range c.args.states.now c.if-is_after.place _ _
    (parents_then walk.invariant c.loop-change-test.true c.change-item.is (place (goal.at.bounds-states-place c).After-is_after-in-loop-change))

pub loop-change-preserved : goal.loop-change-preserved
loop-change-preserved c =
    let walk = c.loop-change in
    let place = place (goal.at.loop-change-preserved c).After-is_after-in-loop-change in
    let next = c.apply.new.self in
    let after = c.in_ok-apply.ensures in
    let parents = parents_then walk.invariant c.loop-change-test.true c.change-item.is place in
    let absorbed = absorbed_here c.args.states.now c.if-is_after.place _ _ _ parents in
    elim c.if-is_after-2.branch [
      | then-is_after-2+in_ok-pending_between+in_ok-push w ↦
          let begun = sym c.is_after-in-loop-change.ensures ∙ w.if-is_after-2.true in
          let reached = w.in_ok-push.ensures walk.invariant.done _ walk.invariant.reached (w.in_ok-pending_between.ensures (rw after absorbed)) in
          rw w.absorbing-is (goes_on walk.invariant c.loop-change-test.true c.change-item.is place next after w.push.new.self true begun reached)
      | else-is_after-2 w ↦
          let begun = sym c.is_after-in-loop-change.ensures ∙ w.if-is_after-2.false in
          rw w.absorbing-is (goes_on walk.invariant c.loop-change-test.true c.change-item.is place next after walk.absorbing false begun (subst (AreTo walk.absorbing) (sym (append-nil walk.invariant.done)) walk.invariant.reached))
    ]

pub returns : goal.returns
returns c = arrived c.loop-change.invariant c.loop-change-test.false

pub bounds-states-0 : goal.bounds-states-0
bounds-states-0 c = in_range c.args.states.now 0 _ _ c.requires.absorbed

pub overflow_add-place : goal.overflow_add-place
overflow_add-place c = let low = in_range c.args.states.now c.loop-change.place _ _ c.loop-change.invariant.parents in omega arith
