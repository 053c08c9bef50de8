use Rattle.par2_inputs.proofs.Names.{◌≡◌, ◌∙◌, ◌+◌, ◌++◌, ◌∷◌, [], ℕ, List, Bor, inr, sym, ap, Some, true, false, not, get_or, take, subst, arith, below_more, option_map, get_or_default, take_more, not-true, not-false, is_among, holds_more, DuplicateInput, HoldsNames, again_found}
use Rattle.par2_inputs.proofs.inputs.no_duplicate.Goals as goal

pub returns-then-not-branch-clause-refused : goal.returns-then-not-branch-clause-refused
returns-then-not-branch-clause-refused c =
    let names : List (List ℕ) = c.args.names.now in
    let i = c.loop-i.i in
    let item : List ℕ = c.index-names-i.result in
    let name : item ≡ get_or names i [] = c.index-names-i.is ∙ get_or_default names i _ [] c.loop-i-test.true in
    let key : Bor (List ℕ) = record { ref_ptr = (0, 0); now = item } in
    let added : c.in_ok-insert.field-0 ≡ not (is_among (take i names) item) = c.in_ok-insert.ensures.added ∙ ap not (c.loop-i.invariant.1 key) in
    let there : is_among (take i names) item ≡ true = not-false _ (sym added ∙ c.if-not-branch.true) in
    inr (ap (option_map (λ k. DuplicateInput (1 + k))) (again_found names i c.loop-i-test.true c.loop-i.invariant.0 (ap (is_among (take i names)) (sym name) ∙ there))
    ∙ ap (λ n. Some (DuplicateInput n)) (let e : 1 + i ≡ i + 1 = omega arith in e))

pub loop-i-preserved : goal.loop-i-preserved
loop-i-preserved c =
    let names : List (List ℕ) = c.args.names.now in
    let i = c.loop-i.i in
    let item : List ℕ = c.index-names-i.result in
    let before : List (List ℕ) = take i names in
    let name : item ≡ get_or names i [] = c.index-names-i.is ∙ get_or_default names i _ [] c.loop-i-test.true in
    let more : take (i + 1) names ≡ before ++ item ∷ [] = take_more names i [] c.loop-i-test.true ∙ ap (λ x. before ++ x ∷ []) (sym name) in
    let key : Bor (List ℕ) = record { ref_ptr = (0, 0); now = item } in
    let added : c.in_ok-insert.field-0 ≡ not (is_among before item) = c.in_ok-insert.ensures.added ∙ ap not (c.loop-i.invariant.1 key) in
    let out : is_among before item ≡ false = not-true _ (sym added ∙ c.if-not-branch.false) in (
      below_more _ _ c.loop-i.invariant.0 (ap (is_among before) (sym name) ∙ out),
      subst (HoldsNames c.insert.new.self) (sym more) (holds_more (λ (k : Bor (List ℕ)). k.now) _ _ key before c.in_ok-insert.ensures.updates.0 c.loop-i.invariant.1),
    )
