use Rattle.par2_verify.proofs.Common.{◌≡◌, ◌∙◌, ◌+◌, ◌++◌, ◌∷◌, [], List, ℕ, Bool, Bor, true, false, not, cond, map, sym, ap, subst, take, rules, append-nil, filter, filter-append, map-append, take_all, take_more, Target, is_incomplete, HoldsNames, holds_more}
use Rattle.par2_verify.proofs.matching.parted.Goals as goal

pub loop-target-preserved : goal.loop-target-preserved
loop-target-preserved c =
    let test = is_incomplete c.args.folder.now.files c.args.set.now in
    let rest = λ (u : Target). not (test u) in
    let name = λ (u : Target). u.name in
    let now = λ (u : Bor Target). u.now in
    let i = c.loop-target.target-index in
    let t : Target = c.target-item.result in
    let before : List Target = take i c.targets-target-items.result.now in
    let is : c.is_incomplete.result ≡ test t = c.is_incomplete.ensures in
    let more : take (i + 1) c.targets-target-items.result.now ≡ before ++ t ∷ [] = take_more c.targets-target-items.result.now i t c.loop-target-test.true ∙ ap (λ u. before ++ u ∷ []) (sym c.target-item.is) in
    let incomplete = λ (b : Bool). filter test before ++ cond b (t ∷ []) [] in
    let intact = λ (b : Bool). map name (filter rest before ++ cond (not b) (t ∷ []) []) in
    let both : (map now c.if-is_incomplete.incomplete.items ≡ incomplete (test t)) × HoldsNames c.if-is_incomplete.intact (intact (test t)) =
    elim c.if-is_incomplete.branch as (λ _. (map now c.if-is_incomplete.incomplete.items ≡ incomplete (test t)) × HoldsNames c.if-is_incomplete.intact (intact (test t))) [
      | goal.then-is_incomplete+in_ok-push w ↦
          let yes : test t ≡ true = sym is ∙ w.if-is_incomplete.true in
          let new : c.if-is_incomplete.incomplete.items ≡ w.push.new.self.items = search rules in (
            ap (map now) (new ∙ w.in_ok-push.ensures.items) ∙ map-append now c.loop-target.incomplete.items _ ∙ ap (λ (us : List Target). us ++ t ∷ []) c.loop-target.invariant.incomplete ∙ ap incomplete (sym yes),
            subst (λ tree. HoldsNames tree (intact (test t))) (sym w.intact-is) (subst (HoldsNames c.loop-target.intact) (ap (map name) (sym (append-nil (filter rest before))) ∙ ap intact (sym yes)) c.loop-target.invariant.intact),
          )
      | goal.else-is_incomplete+in_ok-insert w ↦
          let no : test t ≡ false = sym is ∙ w.if-is_incomplete.false in
          let same : c.if-is_incomplete.incomplete.items ≡ c.loop-target.incomplete.items = search rules in (
            ap (map now) same ∙ c.loop-target.invariant.incomplete ∙ sym (append-nil (filter test before)) ∙ ap incomplete (sym no),
            subst (λ tree. HoldsNames tree (intact (test t))) (sym w.intact-is)
                (subst (HoldsNames w.insert.new.self) (ap (λ n. map name (filter rest before) ++ n ∷ []) w.name.ensures ∙ sym (map-append name (filter rest before) (t ∷ [])) ∙ ap intact (sym no))
                (holds_more (λ (k : Bor (List ℕ)). k.now) _ _ w.name.result (map name (filter rest before)) w.in_ok-insert.ensures.updates.0 c.loop-target.invariant.intact)),
          )
    ] in
    record {
      incomplete = both.0 ∙ sym (filter-append test before (t ∷ [])) ∙ ap (filter test) (sym more);
      intact = subst (HoldsNames c.if-is_incomplete.intact) (ap (map name) (sym (filter-append rest before (t ∷ [])) ∙ ap (filter rest) (sym more))) both.1;
    }

pub returns-clause-intact : goal.returns-clause-intact
returns-clause-intact c =
    subst (λ (ts : List Target). HoldsNames c.loop-target.intact (map (λ u. u.name) (filter (λ u. not (is_incomplete c.args.folder.now.files c.args.set.now u)) ts)))
    (take_all c.loop-target.target-index c.targets-target-items.result.now c.loop-target-test.false ∙ c.targets-target-items.ensures.value) c.loop-target.invariant.intact

pub returns-clause-incomplete : goal.returns-clause-incomplete
returns-clause-incomplete c = c.loop-target.invariant.incomplete ∙ ap (filter (is_incomplete c.args.folder.now.files c.args.set.now)) (take_all c.loop-target.target-index c.targets-target-items.result.now c.loop-target-test.false ∙ c.targets-target-items.ensures.value)
