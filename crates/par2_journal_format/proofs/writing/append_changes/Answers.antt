use Rattle.par2_journal_format.proofs.Names.{◌≡◌, ◌<◌, length, get_or, ap, sym, ◌∙◌, arith, get_or-map, length-map, change_of, changes_in, IsChange, change_bytes, wrote_more}
use Rattle.par2_journal_format.proofs.writing.append_changes.Goals as goal

pub loop-change-preserved : goal.loop-change-preserved
loop-change-preserved c =
    let all = c.args.changes.now in
    let i = c.loop-change.change-index in
    let item = c.change-item.result in
    let appended = c.in_ok-append_change.ensures in
    let lt : i < length (changes_in all) = omega (arith, c.loop-change-test.true, length-map all change_of) in
    let is : change_of item ≡ get_or (changes_in all) i (change_of item) = ap change_of c.change-item.is ∙ sym (get_or-map change_of all i item (change_of item) c.loop-change-test.true) in
    wrote_more (changes_in all) i IsChange change_bytes c.args.out.now.items c.loop-change.out.items c.append_change.new.out.items (change_of item) lt is c.loop-change.invariant appended.bytes appended.change
