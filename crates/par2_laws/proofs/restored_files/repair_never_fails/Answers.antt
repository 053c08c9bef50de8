pub returns : Rattle.par2_laws.proofs.restored_files.repair_never_fails.Goals.returns
returns c folder base extras purge files s original = Rattle.par2_laws.proofs.Reading.never_fails folder base extras files s original purge
