use Rattle.par2_verify.proofs.Names.{◌≡◌, ◌∙◌, ◌+◌, ◌++◌, ◌∷◌, [], List, ℕ, Bor, true, false, not, cond, map, sym, ap, subst, take, rules, map_more, not-true, not-false, is_among, distinct, HoldsNames, holds_more, distinct_more, take_all}
use Rattle.par2_verify.proofs.matching.distinct.Goals as goal

abbrev now : Bor (List ℕ) → List ℕ
now name = name.now

pub loop-name-preserved : goal.loop-name-preserved
loop-name-preserved c =
    let names : List (Bor (List ℕ)) = c.args.names.now in
    let i = c.loop-name.name-index in
    let key : Bor (List ℕ) = c.name-item.result in
    let item : List ℕ = key.now in
    let before : List (List ℕ) = map now (take i names) in
    let more : map now (take (i + 1) names) ≡ before ++ item ∷ [] = map_more now names i key c.loop-name-test.true ∙ ap (λ (k : Bor (List ℕ)). before ++ k.now ∷ []) (sym c.name-item.is) in
    let added : c.in_ok-insert.field-0 ≡ not (is_among before item) = c.in_ok-insert.ensures.added ∙ ap not (c.loop-name.invariant.1 key) in
    let list : List (List ℕ) = c.if-branch.list.items in
    let once : list ≡ cond (is_among before item) (distinct before) (distinct before ++ item ∷ []) =
    elim c.if-branch.branch as (λ _. list ≡ cond (is_among before item) (distinct before) (distinct before ++ item ∷ [])) [
      | goal.then-branch+in_ok-push w ↦
          let out : is_among before item ≡ false = not-true _ (sym added ∙ w.if-branch.true) in
          let pushed : list ≡ c.loop-name.list.items ++ item ∷ [] = search rules in
          pushed ∙ ap (λ xs. xs ++ item ∷ []) c.loop-name.invariant.0 ∙ ap (λ b. cond b (distinct before) (distinct before ++ item ∷ [])) (sym out)
      | goal.else-branch w ↦
          let there : is_among before item ≡ true = not-false _ (sym added ∙ w.if-branch.false) in
          let same : list ≡ c.loop-name.list.items = search rules in
          same ∙ c.loop-name.invariant.0 ∙ ap (λ b. cond b (distinct before) (distinct before ++ item ∷ [])) (sym there)
    ] in (
      once ∙ sym (distinct_more before item) ∙ ap distinct (sym more),
      subst (HoldsNames c.insert.new.self) (sym more) (holds_more now _ _ key before c.in_ok-insert.ensures.updates.0 c.loop-name.invariant.1),
    )

pub returns : goal.returns
returns c = c.loop-name.invariant.0 ∙ ap (λ (ks : List (Bor (List ℕ))). distinct (map now ks)) (take_all c.loop-name.name-index c.args.names.now c.loop-name-test.false)
