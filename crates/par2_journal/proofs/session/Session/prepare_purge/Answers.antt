use Rattle.par2_journal.proofs.Names.{Purge, ok_no_err, plan_ready}
use Rattle.par2_journal.proofs.session.Session.prepare_purge.Goals as goal

pub returns : goal.returns
returns c =
    let planned = c.in_ok-changes.ensures in
    let ready = c.prepare_changes.ensures in
    plan_ready c.args.self.now c.prepare_changes.new.self (Purge c.args.base.now) c.in_ok-changes.changes tt ready.kept c.folder.result.now c.folder.ensures.folder
    planned.accepted planned.changes planned.applies planned.leads (λ fault found. ok_no_err _ _ (planned.early fault found)) c.prepare_changes.result ready.kind ready.fits ready.prints ready.refused
