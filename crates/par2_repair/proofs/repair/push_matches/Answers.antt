use Rattle.par2_repair.proofs.Common.{◌≡◌, ◌∙◌, rules, ◌+◌, ◌++◌, ◌∷◌, [], List, ℕ, sym, ap, ap₂, take, append-nil, append_assoc, None, Some, Option, option_map, cons_option, filter_map-append, take_more, Change, Rename, Target, matches_taken, place_in}
use Rattle.par2_repair.proofs.repair.push_matches.Goals as goal

pub loop-incomplete-preserved : goal.loop-incomplete-preserved
loop-incomplete-preserved c =
    let ms : List (Target × Option (List ℕ)) = c.args.targets.now in
    let i = c.loop-incomplete.incomplete-index in
    let item : Target × Option (List ℕ) = c.incomplete-item.result in
    let place = place_in c.args.asides.now in
    let old : List Change = c.args.changes.now in
    let some : List Change = matches_taken c.args.asides.now (take i ms) in
    let next = λ (o : Option (List ℕ)). cons_option (option_map (λ name. Rename (place name) item.0.name) o) [] in
    let more : matches_taken c.args.asides.now (take (i + 1) ms) ≡ some ++ next item.1 =
    ap (matches_taken c.args.asides.now) (take_more ms i item c.loop-incomplete-test.true ∙ ap (λ x. take i ms ++ x ∷ []) (sym c.incomplete-item.is))
    ∙ filter_map-append (λ (m : Target × Option (List ℕ)). option_map (λ name. Rename (place name) m.0.name) m.1) (take i ms) (item ∷ []) in
    let list : List Change = c.match-incomplete.changes in
    let step : list ≡ old ++ (some ++ next item.1) =
    elim c.match-incomplete.branch as (λ _. list ≡ old ++ (some ++ next item.1)) [
      | goal.in-Some+in_ok-push w ↦
          let found : List ℕ = w.in-Some.found in
          let name : w.copied.result ≡ item.0.name = search rules in
          let is : item.1 ≡ Some found = search rules in
          w.changes-is ∙ w.in_ok-push.ensures.ok
          ∙ ap₂ (λ from to. c.loop-incomplete.changes ++ Rename from to ∷ []) (w.now_at-from.ensures) name
          ∙ ap (λ (cs : List Change). cs ++ Rename (place found) item.0.name ∷ []) (c.loop-incomplete.invariant)
          ∙ append_assoc old some (Rename (place found) item.0.name ∷ [])
          ∙ ap (λ o. old ++ (some ++ next o)) (sym is)
      | goal.in_default w ↦
          let is : item.1 ≡ None = search rules in
          w.changes-is ∙ c.loop-incomplete.invariant ∙ ap (λ (cs : List Change). old ++ cs) (sym (append-nil some))
          ∙ ap (λ o. old ++ (some ++ next o)) (sym is)
    ] in
    step ∙ ap (λ (cs : List Change). old ++ cs) (sym more)
