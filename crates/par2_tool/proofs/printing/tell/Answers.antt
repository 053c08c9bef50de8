use Rattle.par2_tool.proofs.Runs.{printed}
use Rattle.par2_tool.proofs.printing.tell.Goals as goal

pub returns-in-Ok : goal.returns-in-Ok
returns-in-Ok g c = printed g.W.Write.contents c.args.out.now c.write_outcome.new.out c.finish.new.out _ c.in-Ok.ensures _ _ (rw c.status_of.ensures at c.finish.ensures)
