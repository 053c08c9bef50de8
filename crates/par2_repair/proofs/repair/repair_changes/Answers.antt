use Rattle.par2_repair.proofs.Names.{◌≡◌, ◌∙◌, ℕ, List, map, sym, ap, subst, Some, None, err_from_is_err_and, refused_by, long_aside, names_there, arith, append_assoc, matches, aside, put_aside, place_in, now_at, asides_are, changes_are, removals_are, put_aside_in}
use Rattle.par2_repair.proofs.repair.repair_changes.Goals.{In_ok-asides}
use Rattle.par2_repair.proofs.repair.repair_changes.Goals as goal

-- the files of these names are put aside
put : (c : In_ok-asides) (searched : List (List ℕ)) → c.args.incomplete.now ≡ matches c.args.folder.now.files c.args.reading.now.set searched → c.in_ok-put_aside.put_aside.items ≡ put_aside c.args.folder.now.files c.args.reading.now.set
put c searched e = c.in_ok-put_aside.ensures ∙ put_aside_in c.args.folder.now.files c.args.reading.now.set searched c.args.incomplete.now e

-- under the asides of the definitions
held : (c : In_ok-asides) (searched : List (List ℕ)) → c.args.incomplete.now ≡ matches c.args.folder.now.files c.args.reading.now.set searched → (name : List ℕ) → place_in c.in_ok-asides.asides name ≡ now_at c.args.folder.now.files c.args.reading.now.set name
held c searched e =
    let others : c.deref-3.result.now ≡ map (aside c.args.folder.now.files c.args.reading.now.set) c.deref-2.result.now = c.deref-3.ensures.value ∙ c.in_ok-others.ensures.names ∙ ap (map (aside c.args.folder.now.files c.args.reading.now.set)) (c.deref.ensures.value ∙ sym c.deref-2.ensures.value) in
    asides_are c.args.folder.now.files c.args.reading.now.set searched c.deref-2.result.now c.deref-3.result.now c.in_ok-asides.asides c.in_ok-asides.ensures (c.deref-2.ensures.value ∙ put c searched e) others

pub returns-then-not-purge-clause-changes : goal.returns-then-not-purge-clause-changes
returns-then-not-purge-clause-changes c = λ searched own e targets.
    let at = (goal.at.returns-then-not-purge-clause-changes c).In_ok-asides in
    let all = changes_are c.args.folder.now.files c.args.reading.now.set searched c.in_ok-asides.asides (held at searched e) _ c.deref-4.result.now _ e (c.deref-4.ensures.value ∙ put at searched e) targets in
    grind (arith, append_assoc, all)

pub returns-clause-changes : goal.returns-clause-changes
returns-clause-changes c = λ searched own e targets.
    let at = (goal.at.returns-clause-changes c).In_ok-asides in
    let all = changes_are c.args.folder.now.files c.args.reading.now.set searched c.in_ok-asides.asides (held at searched e) _ c.deref-4.result.now _ e (c.deref-4.ensures.value ∙ put at searched e) targets in
    let files = c.in_ok-files.ensures c.args.folder.now.files (c.deref-6.ensures.value ∙ own) in
    let removals = removals_are c.args.folder.now.files c.args.reading.now.set searched c.in_ok-asides.asides (held at searched e) c.in_ok-matching.matching _ c.deref-5.result.now c.deref-7.result.now c.in_ok-matching.ensures e (c.deref-5.ensures.value ∙ put at searched e) (c.deref-7.ensures.value ∙ files) in
    grind (arith, append_assoc, all, removals)

pub returns-in_err-others-clause-refused : goal.returns-in_err-others-clause-refused
returns-in_err-others-clause-refused c =
    refused_by (λ y. long_aside c.args.folder.now.files c.args.reading.now.set c.deref.result.now ≡ Some y) (λ y. long_aside c.args.folder.now.files c.args.reading.now.set (names_there c.args.folder.now.files c.args.incomplete.now) ≡ Some y) c.from_residual-in_err-others.result c.in_err-others.field-0.0
    (err_from_is_err_and c.from_residual-in_err-others.result c.from_residual-in_err-others.ensures.1) c.in_err-others.ensures.refused (subst (λ ns. long_aside c.args.folder.now.files c.args.reading.now.set ns ≡ Some c.in_err-others.field-0.0) (c.deref.ensures.value ∙ c.in_ok-put_aside.ensures))

pub returns-then-not-purge-clause-short : goal.returns-then-not-purge-clause-short
returns-then-not-purge-clause-short c = subst (λ ns. long_aside c.args.folder.now.files c.args.reading.now.set ns ≡ None) (c.deref.ensures.value ∙ c.in_ok-put_aside.ensures) c.in_ok-others.ensures.short

pub returns-clause-short : goal.returns-clause-short
returns-clause-short c = subst (λ ns. long_aside c.args.folder.now.files c.args.reading.now.set ns ≡ None) (c.deref.ensures.value ∙ c.in_ok-put_aside.ensures) c.in_ok-others.ensures.short
