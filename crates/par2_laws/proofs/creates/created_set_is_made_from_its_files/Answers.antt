pub returns : Rattle.par2_laws.proofs.creates.created_set_is_made_from_its_files.Goals.returns
returns c = Rattle.par2_laws.proofs.Damage.set_of_files
