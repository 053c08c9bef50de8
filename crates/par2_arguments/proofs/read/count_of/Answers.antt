use Rattle.par2_arguments.proofs.Names.{◌∙◌, ParsesUnsigned, ExplainsUnsignedError, HasUnsignedDigitsIfOk, found_of, number_read}

pub returns : Rattle.par2_arguments.proofs.read.count_of.Goals.returns
returns c = c.unwrap_or.ensures ∙ number_read (λ bs r. ParsesUnsigned 32 10 bs r × ExplainsUnsignedError 10 bs r × HasUnsignedDigitsIfOk bs r) 32 (λ u x g. g.0)
    (found_of c.args.matches.now) c.args.id.now c.get_one.result c.get_one.ensures.none c.get_one.ensures.value
