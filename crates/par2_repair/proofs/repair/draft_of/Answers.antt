use Rattle.par2_repair.proofs.Names.{◌≡◌, ◌∙◌, ◌⊎◌, List, [], ℕ, length, map, sym, ap, subst, None, Some, Ok, Option, AllByRecursion, IsDistinct, bytes_eq, std_from_distinct, err_from_is_err_and, refused_by, set_in, candidates, matches, names_without_match, refusal, Repair, rebuilt_targets, names_there, long_aside, undetermined_fault, ParSet, Target, determined, distinct_once, whole_if_matched, repair_refused, not_repairable, too_long, by_digests, put_aside_in, is_draft}
use Rattle.par2_repair.proofs.repair.draft_of.Goals.{In_ok-restored}
use Rattle.par2_repair.proofs.repair.draft_of.Goals as goal

-- the names that are searched
abbrev searched : In_ok-restored → List (List ℕ)
searched c = candidates c.args.folder.now.files c.args.reading.now.set c.args.reading.now.extras.items

named : (c : In_ok-restored) → c.in_ok-candidates.candidates.items ≡ searched c
named c = c.in_ok-candidates.ensures ∙ ap (candidates c.args.folder.now.files c.args.reading.now.set) c.deref.ensures.value

matched : (c : In_ok-restored) → c.in_ok-incomplete.incomplete.items ≡ matches c.args.folder.now.files c.args.reading.now.set (searched c)
matched c = c.in_ok-incomplete.ensures ∙ ap (matches c.args.folder.now.files c.args.reading.now.set) (c.deref-2.ensures.value ∙ named c)

-- the lost slices can be rebuilt, if there are any
reported : (c : In_ok-restored) (base : List ℕ) → set_in c.args.folder.now.files base c.args.reading.now.extras.items ≡ Ok c.args.reading.now.set → undetermined_fault c.args.folder.now.files c.args.reading.now.set (searched c) ≡ None
reported c base reads =
    let folder = c.args.folder.now.files in
    let set : ParSet = c.args.reading.now.set in
    determined folder set (searched c) (whole_if_matched folder base c.args.reading.now.extras.items c.args.purge set reads)
    (subst (λ ns. (names_without_match (matches folder set (searched c)) ≡ []) ⊎ (undetermined_fault folder set ns ≡ None)) (c.deref-3.ensures.value ∙ named c)
    (subst (λ (ms : List (Target × Option (List ℕ))). (names_without_match ms ≡ []) ⊎ (undetermined_fault folder set c.deref-3.result.now ≡ None)) (c.deref-4.ensures.value ∙ matched c) c.in_ok-restored.ensures.determined))

pub restored_files-requires : goal.restored_files-requires
restored_files-requires c =
    c.deref-4.ensures.value ∙ c.in_ok-incomplete.ensures ∙ ap (matches c.args.folder.now.files c.args.reading.now.set) (c.deref-2.ensures.value ∙ sym c.deref-3.ensures.value)

pub matches-requires : goal.matches-requires
matches-requires c = subst (IsDistinct bytes_eq) (sym (c.deref-2.ensures.value ∙ c.in_ok-candidates.ensures)) (std_from_distinct _ (distinct_once _))

pub returns-in_err-restored-clause-refused : goal.returns-in_err-restored-clause-refused
returns-in_err-restored-clause-refused c = λ base reads.
    let folder = c.args.folder.now.files in
    let set : ParSet = c.args.reading.now.set in
    let names : c.deref-3.result.now ≡ candidates folder set c.args.reading.now.extras.items = c.deref-3.ensures.value ∙ c.in_ok-candidates.ensures ∙ ap (candidates folder set) c.deref.ensures.value in
    refused_by (λ y. undetermined_fault folder set c.deref-3.result.now ≡ Some y) (λ y. refusal folder (Repair base c.args.reading.now.extras.items c.args.purge) ≡ Some y) c.from_residual-in_err-restored.result _
    (err_from_is_err_and c.from_residual-in_err-restored.result c.from_residual-in_err-restored.ensures.1) c.in_err-restored.ensures.refused
    (λ h. repair_refused folder base _ c.args.purge set reads ∙ not_repairable folder set _ _ (subst (λ ns. undetermined_fault folder set ns ≡ Some c.in_err-restored.field-0.0) names h))

pub returns-in_err-changes-clause-refused : goal.returns-in_err-changes-clause-refused
returns-in_err-changes-clause-refused c = λ base reads.
    let at = (goal.at.returns-in_err-changes-clause-refused c).In_ok-restored in
    let folder = c.args.folder.now.files in
    let set : ParSet = c.args.reading.now.set in
    refused_by (λ y. long_aside folder set (names_there folder c.deref-6.result.now) ≡ Some y) (λ y. refusal folder (Repair base c.args.reading.now.extras.items c.args.purge) ≡ Some y) c.from_residual-in_err-changes.result _
    (err_from_is_err_and c.from_residual-in_err-changes.result c.from_residual-in_err-changes.ensures.1) c.in_err-changes.ensures.refused
    (λ h. repair_refused folder base _ c.args.purge set reads ∙ too_long folder set (searched at) (reported at base reads) _
    (subst (λ ns. long_aside folder set ns ≡ Some c.in_err-changes.field-0.0) (put_aside_in folder set (searched at) c.deref-6.result.now (c.deref-6.ensures.value ∙ matched at)) h))

pub returns-clause-draft : goal.returns-clause-draft
returns-clause-draft c = λ base reads files.
    let at = (goal.at.returns-clause-draft c).In_ok-restored in
    let folder = c.args.folder.now.files in
    let set : ParSet = c.args.reading.now.set in
    let own : c.deref-6.result.now ≡ matches folder set (searched at) = c.deref-6.ensures.value ∙ matched at in
    let are : c.in_ok-restored.restored.items ≡ rebuilt_targets folder set (searched at) = c.in_ok-restored.ensures.targets ∙ ap (rebuilt_targets folder set) (c.deref-3.ensures.value ∙ named at) in
    is_draft folder base c.args.reading.now.extras.items c.args.purge set reads _ (record {
      changes = c.in_ok-changes.ensures.changes (searched at) files own are;
      md5s = c.in_ok-md5s.ensures ∙ ap (map (λ (t : Target × List ℕ). t.0.md5)) (c.deref-5.ensures.value ∙ are);
      lengths = subst (AllByRecursion (λ t. length t.1 ≡ t.0.length)) are c.in_ok-restored.ensures.lengths;
      cause = by_digests folder set (searched at) (reported at base reads) (subst (λ ns. long_aside folder set ns ≡ None) (put_aside_in folder set (searched at) c.deref-6.result.now own) c.in_ok-changes.ensures.short);
      few = c.in_ok-changes.ensures.few;
    })
