use Rattle.par2_solve.proofs.Names.{Bor, List, YieldsList-at, YieldsList-from_filter, YieldsList-from_map_by, YieldsList-from_slice, [], ap₂, by_either, cases_eq, eq-eqb, eqb, filter, filter-map, inl, inr, list_any, map-map, map_from_collect, ne_eqb, refl, rules, sym, ℕ, ◌||◌, ◌∙◌, ◌∷◌, ◌≡◌}
use Rattle.par2_solve.proofs.rebuild_slices.bytes_of.Goals as goal

flipped : (a b : ℕ) → eqb a b ≡ eqb b a
flipped a b = by_either (cases_eq a b) (λ same. eq-eqb a b same ∙ sym (eq-eqb b a (sym same))) (λ other. ne_eqb a b other ∙ sym (ne_eqb b a (λ e. other (sym e))))

any_flipped : (a : ℕ) (es : List ℕ) → list_any (λ e. eqb a e) es ≡ list_any (λ e. eqb e a) es
any_flipped a [] = refl
any_flipped a (e ∷ es) = ap₂ (λ x y. x || y) (flipped a e) (any_flipped a es)

-- the recovery slices as they are passed
abbrev given : ℕ × Bor (List ℕ) → ℕ × List ℕ
given r = (r.0, r.1.now)

pub returns : goal.returns
returns c =
    let es = c.args.kept.now.numbers.now in
    let test = λ (r : ℕ × List ℕ). list_any (λ e. eqb e r.0) es in
    rw (filter-map test given c.args.recovery.now, map-map (λ (r : ℕ × List ℕ). r.1) given (filter (λ r. test (given r)) c.args.recovery.now))
    (map_from_collect _ c.collect.ensures.ran
    (YieldsList-from_map_by _ (λ (t : Bor (List ℕ)). t.now) (λ (r : ℕ × Bor (List ℕ)). r.1.now)
    (YieldsList-at c.map.ensures.source (YieldsList-from_filter _ (λ r. test (given r)) (YieldsList-from_slice c.args.recovery.now (cc)) c.filter-slices.ensures.closure (λ x r q k. search (rules, any_flipped))))
    c.map.ensures.closure (λ x r q k. search rules)))
