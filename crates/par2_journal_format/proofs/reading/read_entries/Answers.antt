use Rattle.par2_journal_format.proofs.Names.{◌≡◌, ◌++◌, ◌∷◌, [], arith, err_from_is_err_and, entry_at, goes_on, stops, ends}
use Rattle.par2_journal_format.proofs.reading.read_entries.Goals as goal

pub returns-in_err-entry : goal.returns-in_err-entry
returns-in_err-entry c =
    let p = err_from_is_err_and c.from_residual.result c.from_residual.ensures.1 in
    rw (p.1, p.2) (stops entry_at c.args.count c.args.bytes.now c.loop.entries.items c.loop.counter c.loop.rest.now c.in_err-entry.field-0.0 c.loop-test.true c.in_err-entry.ensures c.loop.invariant)

pub loop-preserved : goal.loop-preserved
loop-preserved c =
    let items : c.push-pushed.new.self.items ≡ c.loop.entries.items ++ c.in_ok-entry.entry ∷ [] = grind (arith, c.push-pushed.ensures.items, c.map_err.ensures.cases, c.in_ok-map_err.was) in
    rw items (goes_on entry_at c.args.count c.args.bytes.now c.loop.entries.items c.loop.counter c.loop.rest.now c.in_ok-entry.entry c.in_ok-entry.behind.now c.loop-test.true c.in_ok-entry.ensures c.loop.invariant)

pub returns : goal.returns
returns c = ends entry_at c.args.count c.args.bytes.now c.loop.entries.items c.loop.counter c.loop.rest.now c.loop-test.false c.loop.invariant
