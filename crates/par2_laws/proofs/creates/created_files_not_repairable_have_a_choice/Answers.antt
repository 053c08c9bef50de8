pub returns : Rattle.par2_laws.proofs.creates.created_files_not_repairable_have_a_choice.Goals.returns
returns c before damaged a base extras purge m r follows = Rattle.par2_laws.proofs.Damage.leaves_choice before damaged a base extras follows purge m r
