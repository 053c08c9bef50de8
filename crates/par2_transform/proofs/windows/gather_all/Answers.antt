use Rattle.par2_transform.proofs.Names.{rules, set, Gathers, next_becomes, one_set}
use Rattle.par2_transform.proofs.windows.gather_all.Goals as goal

pub loop-j-preserved : goal.loop-j-preserved
loop-j-preserved c =
    let l = c.loop-j in
    let by = Gathers c.args.a c.args.values.now in
    next_becomes by l.j c.args.blocks.now l.blocks (set l.blocks l.j c.gather.new.self) l.invariant (one_set by l.blocks l.j c.index-blocks-j.result c.gather.new.self (search rules) c.gather.ensures)
