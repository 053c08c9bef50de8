use Rattle.par2_arguments.proofs.Names.{◌∙◌, codes, ParsesUnsigned, ExplainsUnsignedError, HasUnsignedDigitsIfOk, found_of, number_read}

pub returns : Rattle.par2_arguments.proofs.read.slice_size_of.Goals.returns
returns c = c.unwrap_or.ensures ∙ number_read (λ bs r. ParsesUnsigned 64 10 bs r × ExplainsUnsignedError 10 bs r × HasUnsignedDigitsIfOk bs r) 64 (λ u x g. g.0)
    (found_of c.args.matches.now) (codes "slice") c.get_one.result c.get_one.ensures.none c.get_one.ensures.value
