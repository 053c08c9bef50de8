use Rattle.par2_journal.proofs.Common.{refl, walks}
use Rattle.par2_journal.proofs.session.Session.new.Goals as goal

pub from_entries-requires-clause-walks : goal.from_entries-requires-clause-walks
unfolding walks
from_entries-requires-clause-walks c = record { back = refl; forth = rw c.new.ensures.items refl }
