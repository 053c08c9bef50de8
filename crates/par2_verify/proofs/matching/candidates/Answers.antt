use Rattle.par2_verify.proofs.Common.{◌≡◌, ◌∙◌, ◌++◌, List, ℕ, Bor, map, ap, subst, rules, tests, OnOk, IfOk, filter, IfOk-weaker, has, Target, distinct, map-append, YieldsList-at, YieldsList-from_filter, map_from_collect, YieldsList-from_map_by, YieldsList-from_slice, fact_from_extend}
use Rattle.par2_verify.proofs.matching.candidates.Goals as goal

abbrev now : Bor (List ℕ) → List ℕ
now name = name.now

pub returns : goal.returns
returns c =
    let extras : List (List ℕ) = c.args.extra.now in
    let there = has c.args.folder.now.files in
    let names : List (List ℕ) = filter there (map (λ (t : Target). t.name) c.args.set.now.targets) in
    let old : List (Bor (List ℕ)) = c.in_ok-names.names.items in
    let present = map_from_collect c.collect.result c.collect.ensures.ran
    (YieldsList-from_filter _ there
    (YieldsList-at c.filter-present.ensures.source (YieldsList-from_map_by _ now (λ (t : Target). t.name) (YieldsList-from_slice c.args.set.now.targets cc) c.map-targets.ensures.closure (λ x r q k. search rules)))
    c.filter-present.ensures.closure (λ x b q k. search (rules, tests))) in
    let grown = fact_from_extend now c.extend.result c.extend.ensures.ran (λ it b. YieldsList-from_slice _ b.0)
    (λ (xs : List (Bor (List ℕ))) e h. ap (map now) h.0 ∙ map-append now old xs ∙ ap (λ (ys : List (List ℕ)). map now old ++ ys) e) in
    let all : map now c.deref.result.now ≡ names ++ extras =
    ap (map now) c.deref.ensures.value ∙ subst (λ r. OnOk r (map now c.extend.new.self.items ≡ map now old ++ extras)) c.in_ok-extend.was grown
    ∙ ap (λ (ns : List (List ℕ)). ns ++ extras) (subst (λ r. IfOk r (λ list. map now list.items ≡ names)) c.in_ok-names.was present) in
    IfOk-weaker c.distinct.result _ _ (λ list e. e ∙ ap distinct all) c.distinct.ensures
