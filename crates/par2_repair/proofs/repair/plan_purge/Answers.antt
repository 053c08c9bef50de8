use Rattle.par2_repair.proofs.Names.{◌≡◌, ◌⊎◌, ◌∙◌, List, [], sym, ap, subst, Err, IsTrue, IfOk, IfErr, err_from_is_err_and, IfOk-weaker, Change, effects, are_applicable, Purge, changes_of, set_in, refusal, after, Fault, Memory, ok_no_err, refused_by, err_passed, Some, None, Option, purge_as_verify, purge_unread, purge_refused, purge_by_set, purge_leads}
use Rattle.par2_repair.proofs.repair.plan_purge.Goals as goal

pub returns-in_err-reading-clause-early : goal.returns-in_err-reading-clause-early
returns-in_err-reading-clause-early c fault early =
    err_passed c.from_residual.result c.in_err-reading.field-0.0 fault (err_from_is_err_and c.from_residual.result c.from_residual.ensures.1) (sym c.in_err-reading.was ∙ c.read.ensures.early fault (purge_as_verify c.args.folder.now.files c.args.base.now ∙ early))

pub returns-clause-early : goal.returns-clause-early
returns-clause-early c fault early = absurd (ok_no_err c.in_ok-reading.reading fault (c.in_ok-reading.ensures.early fault (purge_as_verify c.args.folder.now.files c.args.base.now ∙ early)))

pub returns-in_err-reading-clause-refused : goal.returns-in_err-reading-clause-refused
returns-in_err-reading-clause-refused c =
    refused_by (λ y. set_in c.args.folder.now.files c.args.base.now [] ≡ Err y) (λ y. refusal c.args.folder.now.files (Purge c.args.base.now) ≡ Some y) c.from_residual.result c.in_err-reading.field-0.0
    (err_from_is_err_and c.from_residual.result c.from_residual.ensures.1) c.in_err-reading.ensures.set (purge_unread c.args.folder.now.files c.args.base.now c.in_err-reading.field-0.0)

pub returns-clause-refused : goal.returns-clause-refused
returns-clause-refused c =
    subst (λ (o : Option Fault). IfErr c.purge_of.result (λ y. (y ≡ Memory) ⊎ (o ≡ Some y))) (sym (purge_refused c.args.folder.now.files c.args.base.now c.in_ok-reading.reading.set c.in_ok-reading.ensures.set)) c.purge_of.ensures.refused

pub returns-clause-accepted : goal.returns-clause-accepted
returns-clause-accepted c =
    subst (λ (o : Option Fault). IfOk c.purge_of.result (λ _. o ≡ None)) (sym (purge_refused c.args.folder.now.files c.args.base.now c.in_ok-reading.reading.set c.in_ok-reading.ensures.set)) c.purge_of.ensures.accepted

pub returns-clause-changes : goal.returns-clause-changes
returns-clause-changes c =
    subst (λ (changes : List Change). IfOk c.purge_of.result (λ made. made ≡ changes)) (sym (purge_by_set c.args.folder.now.files c.args.base.now c.in_ok-reading.reading.set c.in_ok-reading.ensures.set)) c.purge_of.ensures.changes

pub returns-clause-applies : goal.returns-clause-applies
returns-clause-applies c =
    IfOk-weaker c.purge_of.result (λ changes. changes ≡ changes_of c.args.folder.now.files (Purge c.args.base.now)) (λ changes. IsTrue (are_applicable c.args.folder.now.files changes))
    (λ changes is. subst (λ (cs : List Change). IsTrue (are_applicable c.args.folder.now.files cs)) (sym is) (purge_leads c.args.folder.now.files c.args.base.now).0) (returns-clause-changes c)

pub returns-clause-leads : goal.returns-clause-leads
returns-clause-leads c =
    IfOk-weaker c.purge_of.result (λ changes. changes ≡ changes_of c.args.folder.now.files (Purge c.args.base.now)) (λ changes. effects c.args.folder.now.files changes ≡ after c.args.folder.now.files (Purge c.args.base.now))
    (λ changes is. ap (effects c.args.folder.now.files) is ∙ (purge_leads c.args.folder.now.files c.args.base.now).1) (returns-clause-changes c)
