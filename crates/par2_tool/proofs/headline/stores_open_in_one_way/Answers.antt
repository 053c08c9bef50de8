pub returns : Rattle.par2_tool.proofs.headline.stores_open_in_one_way.Goals.returns
returns c = λ contents a b. Rattle.par2_tool.proofs.Openings.one_start c.one_reading.ensures contents.files contents.journal a b
