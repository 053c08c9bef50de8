use Rattle.par2_solve.proofs.Names.{Bor, List, [], arith, by_either, cases_lt, get_or, inl, inr, length, list_at, map, recovered_of, refl, subst, suc, sym, zero, ℕ, ◌<◌, ◌∷◌, ◌≡◌}
use Rattle.par2_solve.proofs.rebuild_slices.fit_recovery.Goals as goal

-- the bytes at an index are those of the recovery slice there
given_at : (recovery : List (ℕ × Bor (List ℕ))) (k : ℕ) (d : ℕ × Bor (List ℕ)) → k < length recovery → (get_or recovery k d).1.now ≡ list_at (map (λ r. r.1) (recovered_of recovery)) k
given_at [] k d low = absurd (omega arith)
given_at (r ∷ recovery) zero d low = refl
given_at (r ∷ recovery) (suc k) d low = given_at recovery k d (omega arith)

pub loop-i-preserved : goal.loop-i-preserved
loop-i-preserved c = λ r k low. by_either (cases_lt r c.loop-i.i)
    (λ before. c.loop-i.invariant r k before)
    (λ past.
    let same : r ≡ c.loop-i.i = omega (arith, low, past) in
    subst (λ m. get_or (list_at (map (λ e. e.1) (recovered_of c.args.recovery.now)) m) k 0 < 256) (sym same)
    (subst (λ (xs : List ℕ). get_or xs k 0 < 256) (given_at c.args.recovery.now c.loop-i.i _ c.loop-i-test.true) (c.fit_bytes.ensures k)))
