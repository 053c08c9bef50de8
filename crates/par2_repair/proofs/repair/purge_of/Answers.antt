use Rattle.par2_repair.proofs.Names.{◌≡◌, ◌∙◌, ◌++◌, ◌∷◌, [], ℕ, List, length, map, not, sym, ap, ap₂, inr, take_all, map_more, Change, Remove, rules, tests, ◌==◌, filter, list_any, fault_where, is_incomplete, NotComplete, YieldsList-from_slice, any_from_yields_List, any_incomplete}
use Rattle.par2_repair.proofs.repair.purge_of.Goals.{After-any}
use Rattle.par2_repair.proofs.repair.purge_of.Goals as goal

one_incomplete : (c : After-any) → not (length (filter (is_incomplete c.args.folder.now.files c.args.set.now) c.args.set.now.targets) == 0) ≡ c.any.result
one_incomplete c =
    let test = is_incomplete c.args.folder.now.files c.args.set.now in
    let any : c.any.result ≡ list_any test c.args.set.now.targets =
    any_from_yields_List test _ _ c.any.result c.any.ensures.ran (YieldsList-from_slice c.args.set.now.targets cc) (λ x b q k. search (rules, tests)) in
    any_incomplete test c.args.set.now.targets ∙ sym any

pub returns-then-any-clause-refused : goal.returns-then-any-clause-refused
returns-then-any-clause-refused c = inr (ap (λ b. fault_where b NotComplete) (one_incomplete (goal.at.returns-then-any-clause-refused c).After-any ∙ c.if-any.true))

pub returns-clause-accepted : goal.returns-clause-accepted
returns-clause-accepted c = ap (λ b. fault_where b NotComplete) (one_incomplete (goal.at.returns-clause-accepted c).After-any ∙ c.if-any.false)

pub loop-name-preserved : goal.loop-name-preserved
loop-name-preserved c =
    c.in_ok-push.ensures.ok ∙ ap₂ (λ (cs : List Change) (n : List ℕ). cs ++ Remove n ∷ []) c.loop-name.invariant (c.copied.ensures ∙ c.name-item.is)
    ∙ sym (map_more Remove c.deref-name-items.result.now c.loop-name.name-index _ c.loop-name-test.true)

pub returns-clause-changes : goal.returns-clause-changes
returns-clause-changes c = c.loop-name.invariant ∙ ap (map Remove) (take_all c.loop-name.name-index c.deref-name-items.result.now c.loop-name-test.false ∙ c.deref-name-items.ensures.value ∙ c.in_ok-files.ensures c.args.folder.now.files c.requires)
