use Rattle.par2_repair.proofs.Common.{◌≡◌, ◌∙◌, ◌+◌, ◌++◌, ◌∷◌, [], List, ℕ, true, false, not, cond, map, filter, sym, ap, take, append-nil, append_assoc, map-append, map-cond, filter_more, rules, Change, Remove, place_in, contains, slice_cmp, nat_cmp}
use Rattle.par2_repair.proofs.repair.push_removed.Goals as goal

pub loop-name-preserved : goal.loop-name-preserved
loop-name-preserved c =
    let names : List (List ℕ) = c.args.names.now in
    let i = c.loop-name.name-index in
    let item : List ℕ = c.name-item.result in
    let free = λ (n : List ℕ). not (contains (slice_cmp nat_cmp) c.args.matching.now n) in
    let remove = λ (n : List ℕ). Remove (place_in c.args.asides.now n) in
    let old : List Change = c.args.changes.now in
    let list : List Change = c.if-not-contains.changes in
    let some : List Change = map remove (filter free (take i names)) in
    let more : filter free (take (i + 1) names) ≡ filter free (take i names) ++ cond (free item) (item ∷ []) [] =
    filter_more free names i item c.loop-name-test.true ∙ ap (λ n. filter free (take i names) ++ cond (free n) (n ∷ []) []) (sym c.name-item.is) in
    let step : list ≡ old ++ (some ++ cond (free item) (remove item ∷ []) []) =
    elim c.if-not-contains.branch as (λ _. list ≡ old ++ (some ++ cond (free item) (remove item ∷ []) [])) [
      | goal.then-not-contains+in_ok-push w ↦
          let out : contains (slice_cmp nat_cmp) c.args.matching.now item ≡ false = sym c.contains.ensures ∙ w.if-not-contains.true in
          w.changes-is ∙ w.in_ok-push.ensures.ok ∙ ap (λ n. c.loop-name.changes ++ Remove n ∷ []) w.now_at.ensures
          ∙ ap (λ (cs : List Change). cs ++ remove item ∷ []) c.loop-name.invariant ∙ append_assoc old some (remove item ∷ [])
          ∙ ap (λ b. old ++ (some ++ cond (not b) (remove item ∷ []) [])) (sym out)
      | goal.else-not-contains w ↦
          let there : contains (slice_cmp nat_cmp) c.args.matching.now item ≡ true = sym c.contains.ensures ∙ w.if-not-contains.false in
          let same : list ≡ c.loop-name.changes = search rules in
          same ∙ c.loop-name.invariant ∙ ap (λ (cs : List Change). old ++ cs) (sym (append-nil some))
          ∙ ap (λ b. old ++ (some ++ cond (not b) (remove item ∷ []) [])) (sym there)
    ] in
    step
    ∙ ap (λ (cs : List Change). old ++ cs)
    (sym (ap (map remove) more ∙ map-append remove (filter free (take i names)) (cond (free item) (item ∷ []) []) ∙ ap (λ (cs : List Change). some ++ cs) (map-cond remove (free item) item [])))
