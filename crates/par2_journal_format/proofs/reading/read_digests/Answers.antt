use Rattle.par2_journal_format.proofs.Names.{◌≡◌, ◌++◌, ◌∷◌, [], arith, err_from_is_err_and, block_at, goes_on, stops, ends}
use Rattle.par2_journal_format.proofs.reading.read_digests.Goals as goal

pub returns-in_err-digest : goal.returns-in_err-digest
returns-in_err-digest c =
    let p = err_from_is_err_and c.from_residual.result c.from_residual.ensures.1 in
    rw (p.1, p.2) (stops (block_at 16) c.args.count c.args.bytes.now c.loop.digests.items c.loop.counter c.loop.rest.now c.in_err-digest.field-0.0 c.loop-test.true c.in_err-digest.ensures c.loop.invariant)

pub loop-preserved : goal.loop-preserved
loop-preserved c =
    let items : c.push-pushed.new.self.items ≡ c.loop.digests.items ++ c.in_ok-digest.digest ∷ [] = grind (arith, c.push-pushed.ensures.items, c.map_err.ensures.cases, c.in_ok-map_err.was) in
    rw items (goes_on (block_at 16) c.args.count c.args.bytes.now c.loop.digests.items c.loop.counter c.loop.rest.now c.in_ok-digest.digest c.in_ok-digest.behind.now c.loop-test.true c.in_ok-digest.ensures c.loop.invariant)

pub returns : goal.returns
returns c = ends (block_at 16) c.args.count c.args.bytes.now c.loop.digests.items c.loop.counter c.loop.rest.now c.loop-test.false c.loop.invariant
