pub returns : Rattle.par2_spec.proofs.search_laws.set_is_sound.Goals.returns
returns c folder base set h = Rattle.par2_spec.proofs.SearchLaws.sound_of folder base set h
