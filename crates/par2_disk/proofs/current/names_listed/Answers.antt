use Rattle.par2_disk.proofs.Names.{None, FoldsTo-push, append-nil, Some, arith, subst, sym, IsCounted}
use Rattle.par2_disk.proofs.current.names_listed.Goals as goal

pub loop-item-preserved-in-Continue-branch-4 : goal.loop-item-preserved-in-Continue-branch-4
loop-item-preserved-in-Continue-branch-4 g c =
    FoldsTo-push _ _ _ _ _ _ c.loop-item.invariant (Some c.in-Some-2.name, subst (IsCounted g.E.Entry c.in-Some.item) c.in-Some-2.is c.in_ok-name.ensures.name, grind arith)

pub loop-item-preserved : goal.loop-item-preserved
loop-item-preserved g c =
    FoldsTo-push _ _ _ _ _ _ c.loop-item.invariant (None, subst (IsCounted g.E.Entry c.in-Some.item) c.in_default.is c.in_ok-name.ensures.name, sym (append-nil c.loop-item.names.items))
