use Rattle.par2_spec.proofs.Basics.{inverse_taken, state_back, inverse_twice}

pub returns : Rattle.par2_spec.proofs.folder_laws.kept_folder_takes_a_change_back.Goals.returns
returns c = λ s x h. record { taken = inverse_taken s x h; state = state_back s x h; change = inverse_twice s.files x }
