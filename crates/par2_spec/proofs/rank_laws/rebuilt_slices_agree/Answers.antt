use Rattle.par2_spec.proofs.Basics.{rebuilt_agrees, rebuilt_is_only}

pub returns : Rattle.par2_spec.proofs.rank_laws.rebuilt_slices_agree.Goals.returns
returns c = record { some = rebuilt_agrees; only = rebuilt_is_only }
