use Rattle.par2_journal_format.proofs.Names.{err_from_is_err_and, change_of, change_at, goes_on, stops, ends}
use Rattle.par2_journal_format.proofs.reading.read_changes.Goals as goal

pub returns-in_err-change : goal.returns-in_err-change
returns-in_err-change c =
    let p = err_from_is_err_and c.from_residual.result c.from_residual.ensures.1 in
    rw (p.1, p.2) (stops change_at c.args.count c.args.bytes.now c.loop.changes c.loop.counter c.loop.rest.now c.in_err-change.field-0.0 c.loop-test.true c.in_err-change.ensures c.loop.invariant)

pub loop-preserved : goal.loop-preserved
loop-preserved c =
    rw c.in_ok-push.ensures.ok (goes_on change_at c.args.count c.args.bytes.now c.loop.changes c.loop.counter c.loop.rest.now (change_of c.in_ok-change.change) c.in_ok-change.behind.now c.loop-test.true c.in_ok-change.ensures c.loop.invariant)

pub returns : goal.returns
returns c = ends change_at c.args.count c.args.bytes.now c.loop.changes c.loop.counter c.loop.rest.now c.loop-test.false c.loop.invariant
