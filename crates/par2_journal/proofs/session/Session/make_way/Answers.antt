use Rattle.par2_journal.proofs.Names.{◌∙◌, map, ap, step_of, can_change}
use Rattle.par2_journal.proofs.session.Session.make_way.Goals as goal

pub returns-clause-can : goal.returns-clause-can
returns-clause-can c =
    can_change c.args.self.now c.make_room.new.self c.args.changes.now c.make_room.ensures.kept c.requires (rw c.len.ensures at c.in_ok-make_room.ensures.vacant) c.in_ok-make_room.ensures.room

pub returns-clause-steps : goal.returns-clause-steps
returns-clause-steps c = c.in_ok-steps.ensures ∙ ap (map step_of) c.as_slice.ensures
