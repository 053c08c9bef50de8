use Rattle.par2_laws.proofs.Reading as surviving

pub returns : Rattle.par2_laws.proofs.answers.refused_repair_leaves_two_lists.Goals.returns
returns c = surviving.two_lists
