use Rattle.par2_journal.proofs.session.Session.repair_as_requested.Goals as goal

pub returns-clause-written : goal.returns-clause-written
returns-clause-written c = record { described = c.in_ok-prepared.ensures.written.described; few = c.in_ok-prepared.ensures.written.few }
