use Rattle.par2_matrix.proofs.Names.{arith, found_among, rises_between, searched, ◌∙◌}
use Rattle.par2_matrix.proofs.exponents.Exponents.contains.Goals as goal

pub returns : goal.returns
returns c =
    let es = c.args.self.now.numbers.now in
    c.is_ok.ensures.value ∙ found_among es c.args.e c.binary_search.result
    (searched es c.args.e c.binary_search.result c.binary_search.ensures.position (λ i j low within. let by = rises_between es c.args.self.now.rise i j low within in omega (arith, by)))
