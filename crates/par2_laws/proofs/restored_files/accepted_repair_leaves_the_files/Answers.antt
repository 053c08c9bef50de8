pub returns : Rattle.par2_laws.proofs.restored_files.accepted_repair_leaves_the_files.Goals.returns
returns c folder base extras purge files s original = Rattle.par2_laws.proofs.Reading.leaves_files folder base extras files s original purge
