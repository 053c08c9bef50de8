use Rattle.par2_journal.proofs.session.Session.from_entries.Goals as goal

pub invariant_of-result : goal.invariant_of-result
invariant_of-result c = record {
  within = c.requires.within;
  walks = record { back = c.requires.walks.back; forth = c.requires.walks.forth };
  checkpoints = c.none-checkpoints.ensures _;
  along = tt;
}
