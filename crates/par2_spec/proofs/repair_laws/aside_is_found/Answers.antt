use Rattle.par2_spec.proofs.AsideNames.{aside_least, aside_one, aside_is_name}

pub returns : Rattle.par2_spec.proofs.repair_laws.aside_is_found.Goals.returns
returns c = record { least = aside_least; name = aside_is_name; own = aside_one }
