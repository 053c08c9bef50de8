use Rattle.par2_spec.proofs.Basics.{accepted_next, refused_alike}

pub returns : Rattle.par2_spec.proofs.session_laws.session_is_a_history.Goals.returns
returns c = record {
  accepted = λ s t action v l h. (accepted_next s t action v l h).0;
  refused = refused_alike;
  valid = λ s t action v l h. (accepted_next s t action v l h).1;
}
