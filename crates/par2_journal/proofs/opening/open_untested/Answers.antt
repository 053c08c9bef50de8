use Rattle.par2_journal.proofs.Names.{None, Some, sym, ap, ◌∙◌, halfway_of, journal_of, opened_by_part, by_journal, not_decoded, opened_with}
use Rattle.par2_journal.proofs.opening.open_untested.Goals as goal

pub returns-in-Err : goal.returns-in-Err
returns-in-Err c = not_decoded c.args.folder c.args.bytes.now c.in-Err.fault c.in-Err.ensures.refused

pub returns-in-None : goal.returns-in-None
returns-in-None c =
    let found = c.in-Ok.ensures.found in
    let j = journal_of c.in-Ok.untested.journal in
    by_journal c.args.folder.files c.args.bytes.now j (opened_by_part c.args.folder.files j None) found.right
    (opened_with c.args.folder.files j None None (ap halfway_of (sym c.take.ensures.value ∙ c.in-None.is))) found.sealed c.open_settled.result c.open_settled.ensures

pub returns-in-Some : goal.returns-in-Some
returns-in-Some c =
    let found = c.in-Ok.ensures.found in
    let j = journal_of c.in-Ok.untested.journal in
    let part = halfway_of (Some c.in-Some.part) in
    by_journal c.args.folder.files c.args.bytes.now j _ found.right
    (opened_with c.args.folder.files j (halfway_of c.take.new.self) part (ap halfway_of (sym c.take.ensures.value ∙ c.in-Some.is))) ((λ _. c.is_sealed.ensures.0 c.if-is_sealed.true), (λ _. tt)) c.open_halfway.result c.open_halfway.ensures
