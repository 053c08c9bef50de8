use Rattle.par2_journal.proofs.Names.{ap, subst, ◌∙◌, takes_all, CanWalk, move_taken}
use Rattle.par2_journal.proofs.session.Session.digests_ahead.Goals as goal

pub digests-requires-clause-applies : goal.digests-requires-clause-applies
digests-requires-clause-applies c = ap (takes_all c.args.self.now.folder) c.next_changes.ensures ∙ move_taken c.in-Some.next c.args.self.now (subst CanWalk c.self.view_is c.self.invariant.walks)
