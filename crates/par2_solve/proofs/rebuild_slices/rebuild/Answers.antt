use Rattle.par2_solve.proofs.Names.{AreByteLists, Bor, IfErr, IsStrictlyIncreasing, IsTrueFault, List, Ok, YieldsList-from_map, YieldsList-from_map_by, YieldsList-from_slice, another, ap, byte_lists, bytes_or_none, exponents_of, items_from_collect, known_among, length-lost_from, lost, lost-lt, lost_are, lost_from, lost_rise, map, map-map, map_from_collect, recovered_of, refl, rules, subst, sym, two, ℕ, ◌∙◌, ◌≡◌}
use Rattle.par2_solve.proofs.Common.{IfErr-weaker}
use Rattle.par2_solve.proofs.rebuild_slices.rebuild.Goals.{After-deref-2, After-deref-6, After-deref-7}
use Rattle.par2_solve.proofs.rebuild_slices.rebuild.Goals as goal

-- the bytes of recovery slices
abbrev bytes_given : List (ℕ × Bor (List ℕ)) → List (List ℕ)
bytes_given recovery = map (λ r. r.1) (recovered_of recovery)

slices_are : (c : After-deref-2) → byte_lists c.in_ok-slices.slices.items ≡ map bytes_or_none c.args.survivors.now.known.items
slices_are c =
    map_from_collect {E = ℕ} (Ok c.in_ok-slices.slices) c.in_ok-slices.ensures.ran (YieldsList-from_map_by _ (λ (t : Bor (List ℕ)). t.now) bytes_or_none (YieldsList-from_slice c.deref.result.now (cc)) c.map-known.ensures.closure (λ x r q k. search rules))
    ∙ ap (map bytes_or_none) c.deref.ensures.value

missing_are : (c : After-deref-6) → c.deref-6.result.now ≡ lost_from 0 c.args.survivors.now.known.items
missing_are c = c.deref-6.ensures.value ∙ c.in_ok-lost.ensures ∙ ap (lost_from 0) c.deref-4.ensures.value

are_lost : (c : After-deref-6) → c.deref-6.result.now ≡ lost (known_among c.args.survivors.now)
are_lost c = missing_are c ∙ sym (lost_are c.args.survivors.now.slice c.args.survivors.now.known.items)

exponents_are : (c : After-deref-7) → c.deref-7.result.now ≡ exponents_of c.args.survivors.now.recovery.items
exponents_are c =
    let recovery = c.deref-5.result.now in
    c.deref-7.ensures.value
    ∙ rw (map-map (λ (r : ℕ × List ℕ). r.0) (λ (r : ℕ × Bor (List ℕ)). (r.0, r.1.now)) recovery)
    (items_from_collect {E = ℕ} (Ok c.in_ok-numbers.numbers) c.in_ok-numbers.ensures.ran (YieldsList-from_map _ (λ (r : ℕ × Bor (List ℕ)). r.0) (YieldsList-from_slice recovery (cc)) c.map-numbers.ensures.closure (λ x r q k. search rules)))
    ∙ ap exponents_of c.deref-5.ensures.value

pub invariant_of-lost : goal.invariant_of-lost
invariant_of-lost c =
    let known = c.args.survivors.now.known.items in
    rw (missing_are (goal.at.invariant_of-lost c).After-deref-6) (record { count = length-lost_from 0 32768 known c.requires.count; below = lost-lt known c.requires.count; rise = lost_rise 0 known })

pub invariant_of-exponents : goal.invariant_of-exponents
invariant_of-exponents c = record { rise = subst IsStrictlyIncreasing (sym (exponents_are (goal.at.invariant_of-exponents c).After-deref-7)) c.requires.exponents }

pub returns-in_err-found-clause-refused : goal.returns-in_err-found-clause-refused
returns-in_err-found-clause-refused c =
    let reported : IfErr c.from_residual-in_err-found.result (IsTrueFault c.deref-6.result.now c.deref-7.result.now) = search rules in
    rw (are_lost (goal.at.returns-in_err-found-clause-refused c).After-deref-6, exponents_are (goal.at.returns-in_err-found-clause-refused c).After-deref-7) at reported

pub solve-requires-clause-slices : goal.solve-requires-clause-slices
solve-requires-clause-slices c = ap byte_lists c.deref-8.ensures.value ∙ slices_are (goal.at.solve-requires-clause-slices c).After-deref-2

pub solve-requires-clause-found : goal.solve-requires-clause-found
solve-requires-clause-found c = rw (are_lost (goal.at.solve-requires-clause-found c).After-deref-6, exponents_are (goal.at.solve-requires-clause-found c).After-deref-7) at c.in_ok-found.ensures.found

pub solve-requires-clause-enough : goal.solve-requires-clause-enough
solve-requires-clause-enough c = rw (are_lost (goal.at.solve-requires-clause-enough c).After-deref-6, exponents_are (goal.at.solve-requires-clause-enough c).After-deref-7) at (c.in_ok-found.ensures.enough refl)

pub returns-clause-enough : goal.returns-clause-enough
returns-clause-enough c = λ _. rw (are_lost (goal.at.returns-clause-enough c).After-deref-6, exponents_are (goal.at.returns-clause-enough c).After-deref-7) at (c.in_ok-found.ensures.enough refl)

pub returns-in_err-found-clause-another : goal.returns-in_err-found-clause-another
returns-in_err-found-clause-another c some =
    let survivors = c.args.survivors.now in
    let known_bytes = subst AreByteLists (ap byte_lists c.deref-2.ensures.value ∙ slices_are (goal.at.returns-in_err-found-clause-another c).After-deref-2) c.buffers_fit.ensures in
    let recovery_bytes = subst AreByteLists (ap bytes_given c.deref-3.ensures.value) c.fit_recovery.ensures in
    another survivors c.requires known_bytes recovery_bytes c.from_residual-in_err-found.result c.another_list_agrees.ensures some (returns-in_err-found-clause-refused c)

pub returns-in_err-found-clause-two : goal.returns-in_err-found-clause-two
returns-in_err-found-clause-two c some =
    let survivors = c.args.survivors.now in
    let known_bytes = subst AreByteLists (ap byte_lists c.deref-2.ensures.value ∙ slices_are (goal.at.returns-in_err-found-clause-two c).After-deref-2) c.buffers_fit.ensures in
    let recovery_bytes = subst AreByteLists (ap bytes_given c.deref-3.ensures.value) c.fit_recovery.ensures in
    two survivors c.requires known_bytes recovery_bytes c.from_residual-in_err-found.result c.two_lists_agree.ensures some (returns-in_err-found-clause-refused c)

pub returns-clause-refused : goal.returns-clause-refused
returns-clause-refused c = IfErr-weaker c.solve.result _ _ (λ fault is. rw is tt) c.solve.ensures.memory

pub returns-clause-another : goal.returns-clause-another
returns-clause-another c some = IfErr-weaker c.solve.result _ _ (λ fault is. rw is tt) c.solve.ensures.memory

pub returns-clause-two : goal.returns-clause-two
returns-clause-two c some = IfErr-weaker c.solve.result _ _ (λ fault is. rw is tt) c.solve.ensures.memory
