use Rattle.par2_journal.proofs.Names.{sym, ◌∙◌, Undo, Redo, acted}
use Rattle.par2_journal.proofs.session.Session.act.Goals as goal

pub returns-in-Undo-clause-done : goal.returns-in-Undo-clause-done
returns-in-Undo-clause-done c h = rw c.in-Undo.is ((acted Undo c.args.self.now c.undo.new.self c.undo.result c.undo.ensures.refused c.undo.ensures.undone).0 (sym c.is_ok.ensures.value ∙ h))

pub returns-in-Undo-clause-may : goal.returns-in-Undo-clause-may
returns-in-Undo-clause-may c h = rw c.in-Undo.is ((acted Undo c.args.self.now c.undo.new.self c.undo.result c.undo.ensures.refused c.undo.ensures.undone).1 (sym c.is_ok.ensures.value ∙ h))

pub returns-in-Redo-clause-done : goal.returns-in-Redo-clause-done
returns-in-Redo-clause-done c h = rw c.in-Redo.is ((acted Redo c.args.self.now c.redo.new.self c.redo.result c.redo.ensures.refused c.redo.ensures.redone).0 (sym c.is_ok-in-Redo.ensures.value ∙ h))

pub returns-in-Redo-clause-may : goal.returns-in-Redo-clause-may
returns-in-Redo-clause-may c h = rw c.in-Redo.is ((acted Redo c.args.self.now c.redo.new.self c.redo.result c.redo.ensures.refused c.redo.ensures.redone).1 (sym c.is_ok-in-Redo.ensures.value ∙ h))
