use Rattle.par2_slices.proofs.Names.{length, arith, none_left}
use Rattle.par2_slices.proofs.search.Search.search_bytes.Goals as goal

pub returns-then-self-eq0-clause-at : goal.returns-then-self-eq0-clause-at
returns-then-self-eq0-clause-at c =
    let search = c.args.self.now in
    none_left c.args.scan.now 0 (length c.args.scan.now.bytes.now) (length c.args.scan.now.bytes.now) search.found.items search.left search.filter search.batch.items c.requires.at c.if-self-eq0.true (omega arith)

pub returns-clause-at : goal.returns-clause-at
returns-clause-at c = c.compare_batch.ensures.at (length c.args.scan.now.bytes.now) c.one_by_one.ensures
