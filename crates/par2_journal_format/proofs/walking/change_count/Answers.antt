use Rattle.par2_journal_format.proofs.Names.{ap₂, Change, List, ◌+◌, take_all, length, sym, ap, ◌∙◌, arith, sum_by, sum_by_more, sum_by_more_le}
use Rattle.par2_journal_format.proofs.walking.change_count.Goals as goal

pub loop-entry-preserved : goal.loop-entry-preserved
loop-entry-preserved c =
    let entry = c.entry-item.result in
    let i = c.loop-entry.entry-index in
    ap₂ (λ n k. n + k) c.loop-entry.invariant (c.len-count.ensures ∙ ap length c.entry-item.is)
    ∙ sym (sum_by_more length c.args.entries.now i entry c.loop-entry-test.true)

pub overflow_add-count : goal.overflow_add-count
overflow_add-count c =
    let entry = c.entry-item.result in
    let i = c.loop-entry.entry-index in
    let one = c.len-count.ensures ∙ ap length c.entry-item.is in
    omega (arith, one, c.loop-entry.invariant, sum_by_more_le length c.args.entries.now i entry c.loop-entry-test.true, c.requires)

pub returns : goal.returns
returns c = c.loop-entry.invariant ∙ ap (λ (es : List (List Change)). sum_by length es) (take_all c.loop-entry.entry-index c.args.entries.now c.loop-entry-test.false)
