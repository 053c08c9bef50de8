use Rattle.par2_plan.proofs.Common.{◌≡◌, ◌⊎◌, inl, inr, List, map, string_bytes, Result, Ok, Err, Option, IfErr, Change, effects, Repair, refusal, after, err_again, err_from_is_err_and, Fault, Memory, RepairFailed, HasItsMd5s, passed, None, Some, RestoresFiles, RestoresInputs, folder_left, answers}
use Rattle.par2_plan.proofs.repair.plan_repair.Goals as goal

failed : {A : Type 0} (P : Type 0) (r : Result A Fault) (cause : Option Fault) → IfErr r (λ y. (y ≡ Memory) ⊎ ((¬ P) × (y ≡ RepairFailed))) → (¬ P → cause ≡ Some RepairFailed) → IfErr r (λ y. (y ≡ Memory) ⊎ (cause ≡ Some y))
failed P (Ok x) cause h f = tt
failed P (Err y) cause (inl memory) f = inl memory
failed P (Err y) cause (inr h) f = inr (let is = f h.0 in let same = h.1 in cc)

pub returns-clause-refused : goal.returns-clause-refused
returns-clause-refused c =
    failed (HasItsMd5s c.in_ok-draft.draft) c.tested.result (refusal c.args.folder.now.files (Repair c.args.base.now (map string_bytes c.args.extras.now) c.args.purge)) c.tested.ensures.wrong c.in_ok-draft.ensures.draft.failed

pub returns-clause-accepted : goal.returns-clause-accepted
returns-clause-accepted c =
    passed (HasItsMd5s c.in_ok-draft.draft) (λ _. refusal c.args.folder.now.files (Repair c.args.base.now (map string_bytes c.args.extras.now) c.args.purge) ≡ None) c.tested.result c.in_ok-draft.draft.changes c.tested.ensures.changes c.tested.ensures.right c.in_ok-draft.ensures.draft.accepted

pub returns-clause-leads : goal.returns-clause-leads
returns-clause-leads c =
    passed (HasItsMd5s c.in_ok-draft.draft) (λ (changes : List Change). effects c.args.folder.now.files changes ≡ after c.args.folder.now.files (Repair c.args.base.now (map string_bytes c.args.extras.now) c.args.purge)) c.tested.result c.in_ok-draft.draft.changes c.tested.ensures.changes
    c.tested.ensures.right (λ has. c.in_ok-draft.ensures.draft.leads)

pub returns-clause-restores : goal.returns-clause-restores
returns-clause-restores c =
    c.repair_restores_the_files.ensures _ _ _ c.args.purge _
    (answers _ _ _ c.args.purge (effects c.args.folder.now.files) c.tested.result (returns-clause-accepted c) (returns-clause-leads c) (returns-clause-refused c))

pub returns-clause-inputs : goal.returns-clause-inputs
returns-clause-inputs c =
    c.repair_restores_the_inputs.ensures _ _ _ c.args.purge _
    (answers _ _ _ c.args.purge (effects c.args.folder.now.files) c.tested.result (returns-clause-accepted c) (returns-clause-leads c) (returns-clause-refused c))

pub returns-in_err-draft-clause-restores : goal.returns-in_err-draft-clause-restores
returns-in_err-draft-clause-restores c =
    err_again (λ r. RestoresFiles c.args.folder.now.files c.args.base.now (map string_bytes c.args.extras.now) (folder_left (effects c.args.folder.now.files) r)) c.from_residual.result c.in_err-draft.field-0.0 (err_from_is_err_and c.from_residual.result c.from_residual.ensures.1)
    (c.repair_restores_the_files.ensures _ _ _ c.args.purge (Err c.in_err-draft.field-0.0) (record { left = tt; refused = c.in_err-draft.ensures.refused }))

pub returns-in_err-draft-clause-inputs : goal.returns-in_err-draft-clause-inputs
returns-in_err-draft-clause-inputs c =
    err_again (λ r. RestoresInputs c.args.folder.now.files c.args.base.now (map string_bytes c.args.extras.now) (folder_left (effects c.args.folder.now.files) r)) c.from_residual.result c.in_err-draft.field-0.0 (err_from_is_err_and c.from_residual.result c.from_residual.ensures.1)
    (c.repair_restores_the_inputs.ensures _ _ _ c.args.purge (Err c.in_err-draft.field-0.0) (record { left = tt; refused = c.in_err-draft.ensures.refused }))
