pub returns : Rattle.par2_spec.proofs.rank_laws.another_list_agrees.Goals.returns
returns c s known recovery slices some unrepairable agrees = Rattle.par2_spec.proofs.ExistLaws.another_agrees s known recovery slices some unrepairable agrees
