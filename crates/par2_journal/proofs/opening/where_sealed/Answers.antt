use Rattle.par2_journal.proofs.Openings.{invalid_elsewhere}
use Rattle.par2_journal.proofs.opening.where_sealed.Goals as goal

pub returns-in_default-clause-unsealed : goal.returns-in_default-clause-unsealed
returns-in_default-clause-unsealed c none reported = invalid_elsewhere c.args.fault reported c.in_default.not-Memory none
