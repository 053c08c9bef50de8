use Rattle.par2_solve.proofs.Names.{YieldsList-from_map, YieldsList-from_range, ap, arith, items_from_collect, map, range_with_len, refl, rules, suc, zero, ℕ, ◌+◌, ◌-◌, ◌∙◌, ◌∷◌, ◌≡◌}
use Rattle.par2_solve.proofs.additions.numbers_from.Goals as goal

moved : (a b n : ℕ) → map (λ k. a + k) (range_with_len b n) ≡ range_with_len (a + b) n
moved a b zero = refl
moved a b (suc n) = let e : a + (b + 1) ≡ a + b + 1 = omega arith in ap (λ ks. (a + b) ∷ ks) (moved a (b + 1) n ∙ ap (λ m. range_with_len m n) e)

pub returns : goal.returns
returns c =
    let n = c.args.count in
    let same : c.args.first + 0 ≡ c.args.first = omega arith in
    rw (← same, ← moved c.args.first 0 n)
    (items_from_collect _ c.collect.ensures.ran (YieldsList-from_map _ (λ (k : ℕ). c.args.first + k) (YieldsList-from_range 0 n n (cc) (let e : n - 0 ≡ n = omega arith in e)) c.map.ensures.closure (λ x r q k. search rules)))
