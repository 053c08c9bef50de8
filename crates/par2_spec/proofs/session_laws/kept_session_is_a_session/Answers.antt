use Rattle.par2_spec.proofs.Basics.{done_of_kept, undone_of_kept, redone_of_kept}

pub returns : Rattle.par2_spec.proofs.session_laws.kept_session_is_a_session.Goals.returns
returns c = record { done = done_of_kept; undone = undone_of_kept; redone = redone_of_kept }
