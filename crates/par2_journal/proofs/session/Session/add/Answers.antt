use Rattle.par2_journal.proofs.Names.{ap, sym, subst, ◌∙◌, arith, insert, takes_all, KeptSession, IsTrue, length_added, done_walks}
use Rattle.par2_journal.proofs.session.Session.add.Goals as goal

pub invariant_of-self : goal.invariant_of-self
invariant_of-self c =
    let xs = c.self.inside.entries.items in
    let n = c.self.inside.cursor in
    let within = c.self.invariant.within in
    let inverted = c.apply_and_invert.new.self in
    let applies = subst (λ (s : KeptSession). IsTrue (takes_all s.folder c.args.changes)) (sym c.self.view_is) c.requires.applies in
    let items = c.in-Ok.ensures.items ∙ ap (λ l. insert l n inverted) c.truncate.ensures.items in
    record {
      within = rw items (omega (arith, length_added xs n within inverted));
      walks = rw items (done_walks c.self.inside.folder c.apply_and_invert.new.folder xs n within _ _ c.args.changes inverted c.apply_and_invert.ensures.folder c.apply_and_invert.ensures.way_back c.self.invariant.walks applies);
      checkpoints = c.none.ensures _;
      along = tt;
    }
