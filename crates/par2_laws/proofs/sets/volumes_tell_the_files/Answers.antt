pub returns : Rattle.par2_laws.proofs.sets.volumes_tell_the_files.Goals.returns
returns c = Rattle.par2_laws.proofs.VolumeFolders.set_made
