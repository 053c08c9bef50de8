pub returns : Rattle.par2_spec.proofs.stop_laws.halfway_journal_still_opens.Goals.returns
returns c = Rattle.par2_spec.proofs.StopLaws.still_stored
