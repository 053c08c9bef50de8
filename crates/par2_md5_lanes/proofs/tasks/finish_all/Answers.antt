use Rattle.par2_md5_lanes.proofs.Names.{◌≡◌, ◌<◌, ◌∙◌, ℕ, List, arith, bytes_left, inl, inr, cases_eq, get_or, get_or-set_other, get_or-set_same, get_or_default, length, length-set, subst, LaneTask, Progresses, finished}
use Rattle.par2_md5_lanes.proofs.tasks.finish_all.Goals as goal

pub loop-k-preserved : goal.loop-k-preserved
loop-k-preserved g c =
    let held = c.loop-k.invariant in
    let k = c.loop-k.k in
    let at : ℕ → List ℕ = λ j. g.H.Hashes.at j c.go_on-state.result in
    let tasks = c.go_on-state.new.tasks in
    let new = c.finish.new.self in
    let size : length tasks ≡ length c.args.tasks.now = c.go_on-state.auto.tasks ∙ held.tasks in
    let within : k < length tasks = omega (arith, size, c.loop-k-test.true) in
    let before : (j : ℕ) (none : LaneTask) → j < length tasks → Progresses (get_or c.args.tasks.now j none) (get_or tasks j none) (g.H.Hashes.at j c.args.state) (at j) 0 = λ j none low.
    let one = held.progress j none (omega (arith, low, size)) in
    let two = c.go_on-state.ensures j none (omega (arith, low, c.go_on-state.auto.tasks)) in
    record { leads = λ last rest h. two.leads last rest (one.leads last rest h); shrinks = omega (arith, one.shrinks, two.shrinks) }
    in
    let its : (none : LaneTask) → Progresses (get_or tasks k none) new (at k) (at k) 0 = λ none.
    subst (λ (h : List ℕ). Progresses (get_or tasks k none) new h h 0) c.in_lane.ensures
    (subst (λ (t : LaneTask). Progresses t new c.in_lane.result c.in_lane.result 0) (get_or_default tasks k _ none within) c.finish.ensures.progress)
    in
    record {
      tasks = length-set tasks k new ∙ size;
      progress = λ j none low. elim (cases_eq j k) [
        | inl same ↦
            let one = before k none within in
            rw (same, get_or-set_same tasks k new none within) (record { leads = λ last rest h. (its none).leads last rest (one.leads last rest h); shrinks = omega (arith, one.shrinks, (its none).shrinks) })
        | inr other ↦ rw (get_or-set_other tasks k j new none other) (before j none (omega (arith, low, size)))
      ];
      done = λ j none low. elim (cases_eq j k) [
        | inl same ↦ rw (same, get_or-set_same tasks k new none within) c.finish.ensures.done
        | inr other ↦
            let still = (c.go_on-state.ensures j none (omega (arith, low, c.loop-k-test.true, held.tasks))).shrinks in
            rw (get_or-set_other tasks k j new none other) (omega (arith, still, held.done j none (omega (arith, low, other))))
      ];
    }

pub returns : goal.returns
returns g c k none last rest low ends =
    let task = get_or c.loop-k.tasks k none in
    finished task.hash task.rest (bytes_left task.feed) (g.H.Hashes.at k c.loop-k.state) last rest (c.loop-k.invariant.done k none (omega (arith, low, c.loop-k-test.false))) ((c.loop-k.invariant.progress k none low).leads last rest ends)
