use Rattle.par2_journal.proofs.Names.{ap, arith, drop, reverse, subst, sym, take, OnlyGrew, grown_can_walk, kept_session, AreCheckpointsOf, along_still}
use Rattle.par2_journal.proofs.session.Session.make_room.Goals as goal

pub invariant_of-self-2 : goal.invariant_of-self-2
invariant_of-self-2 c =
    let items = c.reserve-2.ensures.items in
    let i = c.self.inside.cursor in
    let old = kept_session c.self.inside in
    let grew : OnlyGrew old (kept_session (record (c.self.inside) { folder = c.reserve.new.self; entries = c.reserve-2.new.self })) = record {
      files = c.in_ok-reserve.ensures.files;
      undos = ap (λ xs. reverse (take i xs)) items;
      redos = ap (drop i) items;
      vacant = omega (arith, c.in_ok-reserve.ensures.ok);
      room = omega (arith, c.reserve-2.ensures.capacity, c.reserve-2.ensures.len);
    } in
    record {
      within = rw items c.self.invariant.within;
      walks = grown_can_walk old _ c.self.invariant.walks grew;
      checkpoints = subst (λ f. AreCheckpointsOf f c.self.inside.checkpoints) (sym c.in_ok-reserve.ensures.files) c.self.invariant.checkpoints;
      along = along_still c.self.inside.along old _ grew c.self.invariant.along;
    }
