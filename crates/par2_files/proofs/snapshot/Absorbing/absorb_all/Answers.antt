use Rattle.par2_files.proofs.Names.{◌≡◌, ◌++◌, [], length, take, subst, sym, ◌∙◌, arith, rules, ReachEach, settled}
use Rattle.par2_files.proofs.snapshot.Absorbing.absorb_all.Goals as goal

pub returns-clause-buffers : goal.returns-clause-buffers
returns-clause-buffers c = λ buffers held.
    let states = c.args.self.now.states.items in
    let pendings = c.args.self.now.pendings.items in
    let new = c.absorb_each-states.result in
    let reported = rw c.deref.ensures.value at c.absorb_each-states.ensures in
    let sixteen : length c.absorb_each-states.result ≡ 16 = search rules in
    let count : c.len.result ≡ length pendings = c.len.ensures ∙ c.args.self.now.pendings.ok.0 in
    rw (c.clear.ensures.items, c.in_ok-extend_from_slice.ensures.items)
    (subst (λ n. ReachEach (states ++ take n new) [] buffers) (sym count) (settled states pendings new buffers (omega (arith, sixteen, c.args.self.now.few)) reported held))
