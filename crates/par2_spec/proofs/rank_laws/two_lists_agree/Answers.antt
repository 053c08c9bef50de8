pub returns : Rattle.par2_spec.proofs.rank_laws.two_lists_agree.Goals.returns
returns c s m known recovery bytes survive least unrepairable = Rattle.par2_spec.proofs.ExistLaws.two_agree s m known recovery bytes survive least unrepairable
