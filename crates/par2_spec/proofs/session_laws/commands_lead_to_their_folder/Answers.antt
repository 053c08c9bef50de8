pub returns : Rattle.par2_spec.proofs.session_laws.commands_lead_to_their_folder.Goals.returns
returns c folder command few = Rattle.par2_spec.proofs.AcceptedCommands.command_leads folder command few
