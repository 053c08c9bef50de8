use Rattle.par2_verify.proofs.Names.{◌≡◌, Bor, List, [], ◌∷◌, ℕ, map, ap, sym, subst, rules, IfOk, IfOk-weaker, Pair, Target, Describe, YieldsList-from_map_by, YieldsList-from_slice, map_from_collect, heads}
use Rattle.par2_slices.specs.declared.matching.Target as search
use Rattle.par2_verify.proofs.matching.numbers_of.Goals as goal

describe : (xs : List search.Target) (ts : List (Bor Target)) → ◌≡◌ {A = List (ℕ × List Pair)} (map (λ x. (x.length, x.pairs.now)) xs) (map (λ t. (t.now.length, t.now.pairs)) ts) → Describe xs (map (λ t. t.now) ts)
describe [] [] e = tt
describe [] (t ∷ ts) e = absurd (let no : ⊥ = cc in no)
describe (x ∷ xs) [] e = absurd (let no : ⊥ = cc in no)
describe (x ∷ xs) (t ∷ ts) e = let r = heads _ _ _ _ e in (record { length = ap (λ p. p.0) (sym r.0); pairs = ap (λ p. p.1) (sym r.0) }, describe xs ts r.1)

pub returns : goal.returns
returns c =
    let us : List Target = map (λ (t : Bor Target). t.now) c.args.ts.now in
    let described : Describe c.in_ok-targets.targets.items us =
    subst (λ r. IfOk r (λ list. Describe list.items us)) c.in_ok-targets.was (IfOk-weaker c.collect.result _ _ (λ list e. describe list.items c.args.ts.now e)
    (map_from_collect c.collect.result c.collect.ensures.ran (YieldsList-from_map_by _ (λ (x : search.Target). (x.length, x.pairs.now)) (λ (t : Bor Target). (t.now.length, t.now.pairs)) (YieldsList-from_slice c.args.ts.now cc) c.map-targets.ensures.closure (λ x r q k. search rules)))) in
    IfOk-weaker c.matched.result _ _ (λ numbers h. h us (subst (λ xs. Describe xs us) (sym c.deref.ensures.value) described)) c.matched.ensures
