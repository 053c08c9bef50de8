use Rattle.par2_journal_format.proofs.Names.{◌≡◌, sym, ap, subst, ◌∙◌, IfOk, is_valid, halfway_of, journal_of, session_at, none_if, settled_as_is}
use Rattle.par2_journal_format.proofs.walking.opens_as_is.Goals as goal

pub returns-clause-opens : goal.returns-clause-opens
returns-clause-opens c reported_so =
    let j = journal_of c.in-Ok.journal in
    let files = c.args.folder.now.files in
    let reported = subst (λ r. IfOk r (λ valid. valid ≡ is_valid (session_at files j.cursor c.deref.result.now))) reported_so c.are_valid.ensures in
    settled_as_is files c.args.bytes.now j c.in-Ok.ensures.found
    (ap halfway_of (none_if c.in-Ok.journal.halfway (sym c.is_some.ensures ∙ c.if-is_some.false)))
    (ap (λ entries. is_valid (session_at files j.cursor entries)) (sym c.deref.ensures.value) ∙ sym reported)
