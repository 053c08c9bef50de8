use Rattle.par2_journal.proofs.Openings.{refused_as}
use Rattle.par2_journal.proofs.session.Session.open_before.Goals as goal

pub returns-in-Err : goal.returns-in-Err
returns-in-Err c =
    let reported = c.where_sealed.ensures in
    refused_as c.args.folder c.args.bytes.now (c.in-Err.fault, c.in-Err.folder) c.where_sealed.result c.in-Err.ensures reported.sealed (λ none. reported.unsealed none c.in-Err.ensures.reported)
