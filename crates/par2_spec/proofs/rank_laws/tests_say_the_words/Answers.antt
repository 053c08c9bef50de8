use Rattle.par2_spec.proofs.Basics.{repairable-iff, kept-iff, agrees-iff}

pub returns : Rattle.par2_spec.proofs.rank_laws.tests_say_the_words.Goals.returns
returns c = record { repairable = repairable-iff; kept = kept-iff; agrees = agrees-iff }
