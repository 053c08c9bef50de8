use Rattle.par2_tool.proofs.Openings.{lead_back, leave_files}

pub returns : Rattle.par2_tool.proofs.headline.undone_runs_lead_back.Goals.returns
returns c =
    let keep = c.runs_keep_one_history.ensures in
    let older = c.undos_lead_back.ensures.folders in
    record { opens = lead_back keep older; files = leave_files keep c.stores_open_in_one_way.ensures older }
