use Rattle.par2_tool.proofs.Openings.{effect_settles, refused_so, runs_go}

pub returns : Rattle.par2_tool.proofs.headline.runs_keep_one_history.Goals.returns
returns c = let one = c.stores_open_in_one_way.ensures in record { kept = runs_go one; refused = refused_so one; settled = λ old new action. effect_settles action old new }
