use Rattle.par2_journal.proofs.Common.{ap, ◌∙◌, takes_all, prints_along}
use Rattle.par2_journal.proofs.session.Session.prepare_changes.Goals as goal

pub digests-requires-clause-applies : goal.digests-requires-clause-applies
digests-requires-clause-applies c = ap (takes_all c.make_way.new.self.folder) c.as_slice.ensures ∙ c.in_ok-steps.ensures.can.0

pub returns-clause-fits : goal.returns-clause-fits
returns-clause-fits c = record { can = c.in_ok-steps.ensures.can; steps = c.in_ok-steps.ensures.steps }

pub returns-clause-prints : goal.returns-clause-prints
returns-clause-prints c = c.in_ok-fingerprints.ensures.along ∙ ap (prints_along c.make_way.new.self.folder.files) c.as_slice.ensures
