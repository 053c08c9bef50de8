use Rattle.par2_journal.proofs.Readiness.{requested_session, kind_taken}
use Rattle.par2_journal.proofs.session.ready_changes_apply.Goals as goal

pub returns-clause-applies : goal.returns-clause-applies
returns-clause-applies c = kind_taken

pub returns-clause-commits : goal.returns-clause-commits
returns-clause-commits c = requested_session
