use Rattle.par2_laws.proofs.Damage.{gives_back}

pub returns : Rattle.par2_laws.proofs.creates.repair_gives_the_created_files_back.Goals.returns
returns c before damaged a base extras purge follows = gives_back before damaged a base extras follows purge
