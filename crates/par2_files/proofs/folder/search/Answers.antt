use Rattle.par2_files.proofs.Names.{rules, of_calls, always_returns_same, name_cmp, searched_folder}
use Rattle.par2_files.proofs.folder.search.Goals as goal

pub returns : goal.returns
returns c =
    let facts = c.binary_search_by.ensures in
    let by_name = facts.position (λ file. name_cmp file.0 c.args.name.now) (always_returns_same _ _ _ (λ a r f k. search (rules, of_calls))) in
    searched_folder _ c.requires c.args.name.now _ facts.bound by_name
