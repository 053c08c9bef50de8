pub returns : Rattle.par2_laws.proofs.sets.packets_tell_the_files.Goals.returns
returns c = Rattle.par2_laws.proofs.SetsOfFiles.made_from
