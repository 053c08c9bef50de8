use Rattle.par2_spec.proofs.Basics.{way_back_taken, state_all_back, changes_back}

pub returns : Rattle.par2_spec.proofs.folder_laws.kept_folder_takes_changes_back.Goals.returns
returns c = λ s xs h. record { taken = way_back_taken s xs h; state = state_all_back s xs h; changes = changes_back s xs h }
