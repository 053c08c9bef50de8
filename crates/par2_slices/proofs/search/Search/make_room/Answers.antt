use Rattle.par2_slices.proofs.search.Search.make_room.Goals as goal

pub returns-then-not-is_whole-clause-at : goal.returns-then-not-is_whole-clause-at
returns-then-not-is_whole-clause-at c = c.compare_batch.ensures.at c.args.offset c.requires.at
