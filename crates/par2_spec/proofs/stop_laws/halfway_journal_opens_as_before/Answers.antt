pub returns : Rattle.par2_spec.proofs.stop_laws.halfway_journal_opens_as_before.Goals.returns
returns c = Rattle.par2_spec.proofs.StopLaws.halfway_stored
