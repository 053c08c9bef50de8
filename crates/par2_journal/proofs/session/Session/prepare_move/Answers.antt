use Rattle.par2_journal.proofs.Names.{◌∙◌, ap, sym, subst, step_of, action_for, MayRefuse, nothing_to_move, ready_move}
use Rattle.std.specs.Prelude.{map}
use Rattle.par2_journal.proofs.session.Session.prepare_move.Goals as goal

pub returns-in_default-clause-refused : goal.returns-in_default-clause-refused
returns-in_default-clause-refused c =
    subst (MayRefuse (action_for c.args.next) c.args.self.now) (sym c.from.ensures) (nothing_to_move c.args.next c.args.self.now (c.next_entry.ensures.none c.in_default.is))

pub returns-clause-ready : goal.returns-clause-ready
returns-clause-ready c =
    ready_move c.args.next c.args.self.now c.in_ok-steps.steps c.in_ok-fingerprints.fingerprints c.in-Some.ensures.some
    (c.in_ok-steps.ensures ∙ ap (map step_of) (c.as_slice.ensures ∙ c.in-Some.ensures.entry)) c.in_ok-fingerprints.ensures.along
