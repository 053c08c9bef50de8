use Rattle.par2_arguments.proofs.Names.{arith, flag_read}

pub returns : Rattle.par2_arguments.proofs.read.has_flag.Goals.returns
returns c = grind (arith, flag_read)
