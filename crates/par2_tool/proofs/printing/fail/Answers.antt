use Rattle.par2_tool.proofs.Runs.{printed}
use Rattle.par2_tool.proofs.printing.fail.Goals as goal

pub returns-in-Ok : goal.returns-in-Ok
returns-in-Ok g c = printed g.W.Write.contents c.args.err.now c.write_failure.new.out c.finish.new.out _ c.in-Ok.ensures _ _ (rw c.status_of_failure.ensures at c.finish.ensures)
