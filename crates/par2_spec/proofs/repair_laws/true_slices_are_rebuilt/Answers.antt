pub returns : Rattle.par2_spec.proofs.repair_laws.true_slices_are_rebuilt.Goals.returns
returns c = Rattle.par2_spec.proofs.FilesLaws.true_slices_rebuilt
