use Rattle.par2_journal.proofs.Names.{ap, ◌∙◌, takes_all, kept_session, move_taken}
use Rattle.par2_journal.proofs.session.Session.fingerprints_next.Goals as goal

pub digests-requires-clause-applies : goal.digests-requires-clause-applies
digests-requires-clause-applies c = ap (takes_all c.self.inside.folder) c.next_changes.ensures ∙ move_taken c.args.next (kept_session c.self.inside) c.self.invariant.walks
