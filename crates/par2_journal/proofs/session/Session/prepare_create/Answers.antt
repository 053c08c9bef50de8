use Rattle.par2_journal.proofs.Names.{Create, create_args_of, ok_no_err, plan_ready}
use Rattle.par2_journal.proofs.session.Session.prepare_create.Goals as goal

pub returns : goal.returns
returns c =
    let planned = c.in_ok-plan.ensures in
    let ready = c.prepare_changes.ensures in
    plan_ready c.args.self.now c.prepare_changes.new.self (Create (create_args_of c.args.args.now)) c.in_ok-plan.plan.changes tt ready.kept c.folder.result.now c.folder.ensures.folder
    planned.accepted planned.changes planned.applies planned.leads (λ fault found. ok_no_err _ _ (planned.early fault found)) c.prepare_changes.result ready.kind ready.fits ready.prints ready.refused
