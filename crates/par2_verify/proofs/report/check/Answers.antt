use Rattle.par2_verify.proofs.Names.{◌≡◌, ◌∙◌, Ok, Err, map, refused_by, refused_in, err_from_is_err_and, string_bytes, sym, ap, subst, set_in, report_in, verdict_by_words, refused_as_reported, report_view}
use Rattle.par2_verify.proofs.report.check.Goals as goal

pub returns-clause-report : goal.returns-clause-report
returns-clause-report c =
    let extras = c.deref.ensures.value ∙ c.in_ok-reading.ensures.extras in
    sym (ap (report_in c.args.folder.now.files c.args.base.now) extras)
    ∙ c.in_ok-report_of.ensures c.args.base.now (subst (λ ns. set_in c.args.folder.now.files c.args.base.now ns ≡ Ok c.in_ok-reading.reading.set) (sym extras) c.in_ok-reading.ensures.set)

pub returns-clause-verdict : goal.returns-clause-verdict
returns-clause-verdict c =
    verdict_by_words c.args.folder.now.files c.args.base.now (map string_bytes c.args.extras.now) (report_view c.in_ok-report_of.field-0) (returns-clause-report c)

pub returns-clause-repair : goal.returns-clause-repair
returns-clause-repair c =
    refused_as_reported c.args.folder.now.files c.args.base.now (map string_bytes c.args.extras.now) (report_view c.in_ok-report_of.field-0) (returns-clause-report c)

pub returns-in_err-reading-clause-refused : goal.returns-in_err-reading-clause-refused
returns-in_err-reading-clause-refused c =
    refused_by (λ y. set_in c.args.folder.now.files c.args.base.now (map string_bytes c.args.extras.now) ≡ Err y) (λ y. report_in c.args.folder.now.files c.args.base.now (map string_bytes c.args.extras.now) ≡ Err y) c.from_residual.result c.in_err-reading.field-0.0
    (err_from_is_err_and c.from_residual.result c.from_residual.ensures.1) c.in_err-reading.ensures.set (refused_in c.args.folder.now.files c.args.base.now (map string_bytes c.args.extras.now) c.in_err-reading.field-0.0)
