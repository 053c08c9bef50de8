use Rattle.par2_md5_lanes.proofs.Names.{◌≡◌, ◌<◌, ◌∙◌, arith, cases_eq, get_or, get_or-set_other, get_or-set_same, get_or-take, get_or_default, inl, inr, length, length-set, length-take-le, take, subst, sym, IsBegun, LaneTask, begun_takes}
use Rattle.par2_md5_lanes.proofs.tasks.states_behind.Goals as goal

pub loop-k-preserved : goal.loop-k-preserved
loop-k-preserved g c =
    let pendings = c.args.pendings.now in
    let k = c.loop-k.k in
    let states = c.loop-k.states in
    let new = c.state_behind.result in
    let low : k < length pendings = c.loop-k-test.true in
    record {
      count = length-set states k new ∙ c.loop-k.invariant.count;
      done = λ j m none no_state early held. elim (cases_eq j k) [
        | inl same ↦
            let absorbed = rw same at held in
            let here : c.index-pendings-k.result ≡ get_or pendings k none = c.index-pendings-k.is ∙ get_or_default pendings k _ none low in
            let begun = λ (d : LaneTask). subst (IsBegun (get_or pendings k none)) (sym (get_or-take (length pendings) c.tasks_of-tasks.result k d low)) (c.tasks_of-tasks.ensures.begun k d none (omega (arith, low, c.requires.own, c.requires.few)) low) in
            let size : length (take (length pendings) c.tasks_of-tasks.result) ≡ length pendings = length-take-le (length pendings) c.tasks_of-tasks.result (omega (arith, c.tasks_of-tasks.ensures.count, c.requires.own, c.requires.few)) in
            let taken = λ (d : LaneTask). begun_takes (get_or pendings k none) (get_or (take (length pendings) c.tasks_of-tasks.result) k d) (get_or c.finish_all.new.tasks k d) m (g.H.Hashes.at k c.hashes_of-hashes.result) (begun d) absorbed
            (c.hashes_of-hashes.ensures k none low) (λ last rest. c.finish_all.ensures k d last rest (omega (arith, low, size))) in
            rw (same, get_or-set_same states k new no_state (omega (arith, low, c.loop-k.invariant.count, c.requires.own, c.requires.few))) ((rw here at c.state_behind.ensures m) absorbed (taken _))
        | inr other ↦ rw (get_or-set_other states k j new no_state other) (c.loop-k.invariant.done j m none no_state (omega (arith, early, other)) held)
      ];
    }

pub returns : goal.returns
returns g c k m none no_state low = c.loop-k.invariant.done k m none no_state (omega (arith, low, c.loop-k-test.false))
