use Rattle.par2_slices.proofs.Names.{◌≡◌, ◌∙◌, true, false, sym, no_more, unmarked}
use Rattle.par2_slices.proofs.search.Search.test.Goals as goal

pub returns-else-contains : goal.returns-else-contains
returns-else-contains c =
    let search = c.args.self.now in
    no_more c.args.scan.now c.args.offset search.found.items search.left search.filter search.batch.items c.args.crc c.requires.at c.requires.crc
    (unmarked c.args.scan.now.wanted.now search.found.items search.left search.filter c.args.crc c.requires.at.tally (λ is. let both : true ≡ false = sym (c.contains.ensures.1 is) ∙ c.if-contains.false in cc))
