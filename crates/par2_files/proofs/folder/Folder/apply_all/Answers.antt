use Rattle.par2_files.proofs.Common.{◌<◌, length, arith, change_of}
use Rattle.par2_files.proofs.Lists.{is_accepted, goes_on, arrived, reversed_round}
use Rattle.par2_files.proofs.folder.Folder.apply_all.Goals as goal

pub unreachable-requires : goal.unreachable-requires
unreachable-requires c =
    let lt : c.loop-change.change-index < length c.loop-change.changes = omega arith in
    let none = is_accepted change_of _ _ _ _ _ c.loop-change.invariant lt c.loop-change-test.true _ c.change-item.is in
    let some = rw (← c.change-item.is) at c.in_default.ensures.refused in
    cc

pub loop-change-preserved : goal.loop-change-preserved
loop-change-preserved c =
    let lt : c.loop-change.change-index < length c.loop-change.changes = omega arith in
    let folder = rw (← c.change-item.is) at c.in-Ok.ensures.folder in
    let inverse = rw (← c.change-item.is) at c.in-Ok.ensures.inverse in
    goes_on change_of _ _ _ _ _ c.loop-change.invariant lt c.loop-change-test.true _ c.change-item.is _ _ folder inverse

pub returns-clause-folder : goal.returns-clause-folder
returns-clause-folder c = arrived change_of _ _ _ _ _ c.loop-change.invariant c.loop-change-test.false

pub returns-clause-way_back : goal.returns-clause-way_back
returns-clause-way_back c = rw c.reverse.ensures.after (reversed_round change_of _ _ _ _ _ c.loop-change.invariant c.loop-change-test.false (omega arith))
