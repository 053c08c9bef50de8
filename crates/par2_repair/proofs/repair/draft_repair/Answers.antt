use Rattle.par2_repair.proofs.Names.{◌≡◌, ◌∙◌, ◌⊎◌, List, ℕ, map, sym, subst, string_bytes, Some, Ok, Err, IfErr, IfOk, Memory, err_from_is_err_and, err_passed, ok_no_err, refused_by, set_in, refusal, Repair, repair_as_verify, repair_unread}
use Rattle.par2_repair.proofs.Common.{IsDraft}
use Rattle.par2_repair.proofs.repair.draft_repair.Goals.{In_ok-reading}
use Rattle.par2_repair.proofs.repair.draft_repair.Goals as goal

pub returns-in_err-reading-clause-early : goal.returns-in_err-reading-clause-early
returns-in_err-reading-clause-early c fault early =
    err_passed c.from_residual.result c.in_err-reading.field-0.0 fault (err_from_is_err_and c.from_residual.result c.from_residual.ensures.1)
    (sym c.in_err-reading.was ∙ c.read.ensures.early fault (repair_as_verify c.args.folder.now.files c.args.base.now (map string_bytes c.args.extras.now) c.args.purge ∙ early))

pub returns-clause-early : goal.returns-clause-early
returns-clause-early c fault early =
    absurd (ok_no_err c.in_ok-reading.reading fault (c.in_ok-reading.ensures.early fault (repair_as_verify c.args.folder.now.files c.args.base.now (map string_bytes c.args.extras.now) c.args.purge ∙ early)))

pub returns-in_err-reading-clause-refused : goal.returns-in_err-reading-clause-refused
returns-in_err-reading-clause-refused c =
    let extras : List (List ℕ) = map string_bytes c.args.extras.now in
    refused_by (λ y. set_in c.args.folder.now.files c.args.base.now extras ≡ Err y) (λ y. refusal c.args.folder.now.files (Repair c.args.base.now extras c.args.purge) ≡ Some y) c.from_residual.result c.in_err-reading.field-0.0
    (err_from_is_err_and c.from_residual.result c.from_residual.ensures.1) c.in_err-reading.ensures.set (repair_unread c.args.folder.now.files c.args.base.now extras c.args.purge c.in_err-reading.field-0.0)

-- the set is that of the base and of the extras that were read
reads : (c : In_ok-reading) → set_in c.args.folder.now.files c.args.base.now c.in_ok-reading.reading.extras.items ≡ Ok c.in_ok-reading.reading.set
reads c = subst (λ ns. set_in c.args.folder.now.files c.args.base.now ns ≡ Ok c.in_ok-reading.reading.set) (sym c.in_ok-reading.ensures.extras) c.in_ok-reading.ensures.set

pub returns-clause-refused : goal.returns-clause-refused
returns-clause-refused c =
    subst (λ (ns : List (List ℕ)). IfErr c.draft_of.result (λ fault. (fault ≡ Memory) ⊎ (refusal c.args.folder.now.files (Repair c.args.base.now ns c.args.purge) ≡ Some fault)))
    c.in_ok-reading.ensures.extras (c.draft_of.ensures.refused c.args.base.now (reads (goal.at.returns-clause-refused c).In_ok-reading))

pub returns-clause-draft : goal.returns-clause-draft
returns-clause-draft c =
    subst (λ (ns : List (List ℕ)). IfOk c.draft_of.result (IsDraft c.args.folder.now.files c.args.base.now ns c.args.purge))
    c.in_ok-reading.ensures.extras (c.draft_of.ensures.draft c.args.base.now (reads (goal.at.returns-clause-draft c).In_ok-reading) c.in_ok-reading.ensures.own)
