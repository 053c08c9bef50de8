use Rattle.par2_files.proofs.Names.{rules, of_calls, always_returns_same, name_cmp, file_of, searched_files}
use Rattle.par2_files.proofs.snapshot.Snapshot.search.Goals as goal

pub returns : goal.returns
returns c =
    let facts = rw c.deref.ensures.value at c.binary_search_by.ensures in
    let by_name = facts.position (λ item. name_cmp (file_of item).0 c.args.name.now) (always_returns_same _ _ _ (λ a r f k. search (rules, of_calls))) in
    searched_files _ c.args.self.now.kept c.args.name.now _ facts.bound by_name
