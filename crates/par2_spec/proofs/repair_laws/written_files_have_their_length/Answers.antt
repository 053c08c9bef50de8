pub returns : Rattle.par2_spec.proofs.repair_laws.written_files_have_their_length.Goals.returns
returns c set slices sound count sizes = Rattle.par2_spec.proofs.SearchLaws.written_lengths set slices sound count sizes
