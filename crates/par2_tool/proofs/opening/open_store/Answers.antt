use Rattle.par2_tool.proofs.Openings.{starts}

pub returns-clause-opened : Rattle.par2_tool.proofs.opening.open_store.Goals.returns-clause-opened
returns-clause-opened g c = starts (g.S.Store.honest c.args.store.now) c.open_for.result (g.S.Store.contents c.args.store.now) (g.S.Store.contents c.open_for.new.store) c.open_for.ensures.opened
