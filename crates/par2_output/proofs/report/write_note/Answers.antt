use Rattle.par2_output.proofs.Common.{rules}
use Rattle.par2_output.proofs.report.write_note.Goals as goal

pub returns-then-dropped : goal.returns-then-dropped
returns-then-dropped g c = rw c.if-dropped.true (search rules)
