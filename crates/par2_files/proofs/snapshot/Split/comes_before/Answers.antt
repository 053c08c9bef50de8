use Rattle.par2_files.proofs.Names.{sym, ◌∙◌, later}
use Rattle.par2_files.proofs.snapshot.Split.comes_before.Goals as goal

pub returns-in-At-clause-further : goal.returns-in-At-clause-further
returns-in-At-clause-further c = λ rise name before. later c.in-At.before.now c.args.name.now name (sym c.lt.ensures ∙ rise) (rw c.in-At.is at before)
