pub returns : Rattle.par2_laws.proofs.restored_files.refused_repair_leaves_a_choice.Goals.returns
returns c folder base extras purge files s m r original = Rattle.par2_laws.proofs.Reading.has_choice folder base extras files s original purge m r
