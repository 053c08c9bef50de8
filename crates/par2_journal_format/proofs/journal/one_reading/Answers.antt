use Rattle.par2_journal_format.proofs.Whole.{one_reading}
use Rattle.par2_journal_format.proofs.journal.one_reading.Goals as goal

pub returns : goal.returns
returns c = one_reading
