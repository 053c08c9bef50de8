pub returns : Rattle.par2_laws.proofs.creates.repair_of_created_files_is_refused_for_few_causes.Goals.returns
returns c before damaged a base extras purge fault follows = Rattle.par2_laws.proofs.Damage.few_causes before damaged a base extras follows purge fault
