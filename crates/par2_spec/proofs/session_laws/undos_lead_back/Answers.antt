use Rattle.par2_spec.proofs.FolderLaws as session

pub returns : Rattle.par2_spec.proofs.session_laws.undos_lead_back.Goals.returns
returns c = record { folders = session.run_leaves; undos = session.undos_lead_back }
