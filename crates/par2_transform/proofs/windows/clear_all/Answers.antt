use Rattle.par2_transform.proofs.Names.{rules, set, IsCleared, next_becomes, one_set}
use Rattle.par2_transform.proofs.windows.clear_all.Goals as goal

pub loop-j-preserved : goal.loop-j-preserved
loop-j-preserved c =
    let l = c.loop-j in
    next_becomes IsCleared l.j c.args.blocks.now l.blocks (set l.blocks l.j c.clear.new.self) l.invariant (one_set IsCleared l.blocks l.j c.index-blocks-j.result c.clear.new.self (search rules) c.clear.ensures)
