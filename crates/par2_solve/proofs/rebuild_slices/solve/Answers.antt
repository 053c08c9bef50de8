use Rattle.par2_solve.proofs.Names.{AreByteLists, Inverts, IsStrictlyIncreasing, IsStrictlyIncreasing-filter, List, [], all-filter, all_get, answer, ap, ap₂, arith, byte_lists, exponents_of, get_or-map, is_kept, kept_exponents, kept_slices, known_among, length, length-byte_lists, length-lists_of, length-map, list_at, lists_of, lost, lost_are, map, recovered_of, refl, square, subst, sym, with_exponents, ℕ, ◌<◌, ◌∙◌, ◌≡◌}
use Rattle.par2_solve.specs.declared.rebuild_slices.Survivors as code
use Rattle.par2_solve.proofs.rebuild_slices.solve.Goals.{After-deref, After-deref-3}
use Rattle.par2_solve.proofs.rebuild_slices.solve.Goals as goal

-- the numbers of the lost slices, the recovery slices, and those of the kept exponents
abbrev missing : code.Survivors → List ℕ
missing survivors = lost (known_among survivors)

abbrev given : code.Survivors → List (ℕ × List ℕ)
given survivors = recovered_of survivors.recovery.items

abbrev chosen : code.Survivors → List (ℕ × List ℕ)
chosen survivors = kept_slices (missing survivors) (exponents_of survivors.recovery.items) (given survivors)

exponents_are : (c : After-deref) → c.deref.result.now ≡ map (λ r. r.0) (chosen c.args.survivors.now)
exponents_are c = c.deref.ensures.value ∙ c.requires.found.kept ∙ sym (kept_exponents (missing c.args.survivors.now) (given c.args.survivors.now))

recovery_are : (c : After-deref-3) → byte_lists c.deref-3.result.now ≡ map (λ r. r.1) (chosen c.args.survivors.now)
recovery_are c =
    ap byte_lists c.deref-3.ensures.value ∙ c.in_ok-recovery.ensures
    ∙ ap₂ (λ es rs. map (λ (r : ℕ × List ℕ). r.1) (with_exponents es rs)) (c.deref.ensures.value ∙ c.requires.found.kept) c.deref-2.ensures.value

many : (c : After-deref-3) → length c.deref-3.result.now ≡ length (chosen c.args.survivors.now)
many c = sym (length-byte_lists c.deref-3.result.now) ∙ ap (λ (xs : List (List ℕ)). length xs) (recovery_are c) ∙ length-map (chosen c.args.survivors.now) (λ (r : ℕ × List ℕ). r.1)

pub invariant_of-exponents : goal.invariant_of-exponents
invariant_of-exponents c =
    let all = exponents_of c.args.survivors.now.recovery.items in
    record { rise = subst IsStrictlyIncreasing (sym (c.deref.ensures.value ∙ c.requires.found.kept)) (IsStrictlyIncreasing-filter (is_kept (missing c.args.survivors.now) all) all c.requires.survivors.exponents) }

pub invariant_of-kept : goal.invariant_of-kept
invariant_of-kept c =
    let at = goal.at.invariant_of-kept c in
    record { count = ap (λ (xs : List ℕ). length xs) (exponents_are at.After-deref) ∙ length-map (chosen c.args.survivors.now) (λ (r : ℕ × List ℕ). r.0) ∙ sym (many at.After-deref-3) }

pub solved-requires-clause-inverse : goal.solved-requires-clause-inverse
solved-requires-clause-inverse c = (missing c.args.survivors.now, subst (λ es. Inverts (missing c.args.survivors.now) es c.args.found.now.inverse) (sym c.deref.ensures.value) c.requires.found.inverse)

pub solved-requires-clause-size : goal.solved-requires-clause-size
solved-requires-clause-size c = λ j h.
    let at = (goal.at.solved-requires-clause-size c).After-deref-3 in let recs = chosen c.args.survivors.now in
    let low : j < length recs = omega (arith, h, ap (λ (xs : List (List ℕ)). length xs) (recovery_are at), length-map recs (λ (r : ℕ × List ℕ). r.1)) in
    let sizes = all-filter (λ r. length r.1 ≡ c.args.survivors.now.slice) _ (given c.args.survivors.now) c.requires.survivors.recovery in
    let size = ap (λ xs. length (list_at xs j)) (recovery_are at) ∙ ap length (get_or-map (λ (r : ℕ × List ℕ). r.1) recs j (0, []) [] low) ∙ all_get (λ (r : ℕ × List ℕ). length r.1 ≡ c.args.survivors.now.slice) recs j (0, []) low sizes in
    omega (arith, size, c.requires.survivors.even)

pub returns : goal.returns
returns c =
    let at = goal.at.returns c in let survivors = c.args.survivors.now in let found = c.args.found.now in let kept = chosen survivors in
    let exponents = kept_exponents (missing survivors) (given survivors) in
    let inverts = subst (λ es. Inverts (missing survivors) es found.inverse) (c.requires.found.kept ∙ sym exponents) c.requires.found.inverse in
    let made = answer survivors c.requires.survivors (missing survivors) kept (lists_of c.in_ok-buffers.buffers.items)
    (lost_are survivors.slice survivors.known.items) refl (square (missing survivors) (map (λ (r : ℕ × List ℕ). r.0) kept) found.inverse inverts) c.requires.enough
    (subst AreByteLists c.requires.slices c.in_ok-buffers.ensures.slices)
    (subst AreByteLists (recovery_are at.After-deref-3) c.in_ok-buffers.ensures.recovery)
    ((rw (recovery_are at.After-deref-3, c.requires.slices, exponents_are at.After-deref) at c.in_ok-buffers.ensures.solved) (missing survivors) inverts) (rw c.deref-4.ensures.value at c.fit_lists.ensures) in
    record { rebuilt = made.0; memory = tt; count = sym (length-lists_of c.in_ok-buffers.buffers.items) ∙ made.1 }
