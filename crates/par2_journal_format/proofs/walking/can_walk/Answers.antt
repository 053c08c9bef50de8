use Rattle.par2_journal_format.proofs.Names.{◌+◌, List, drop, map, sym, ◌∙◌, Bor, Change, effects, leads}
use Rattle.par2_journal_format.proofs.TriedNames.{goes_on, here, ends, entry_made, entry_refused, all_entries_made}
use Rattle.par2_journal_format.proofs.walking.can_walk.Goals as goal

pub returns-then-not-branch : goal.returns-then-not-branch
returns-then-not-branch c =
    let so_far = c.loop-entry.invariant in
    let item = c.entry-item.result in
    let tried = rw c.as_slice.ensures at (c.in_ok-go_along.ensures so_far.now so_far.are) in
    entry_refused so_far.now item.now (drop (c.loop-entry.entry-index + 1) (map (λ (e : Bor (List Change)). e.now) c.args.entries.now)) (sym c.if-not-branch.true ∙ tried.reported)
    ∙ here (λ (e : Bor (List Change)). e.now) leads c.args.folder.now.files c.args.entries.now _ _ so_far c.loop-entry-test.true item c.entry-item.is

pub loop-entry-preserved : goal.loop-entry-preserved
loop-entry-preserved c =
    let so_far = c.loop-entry.invariant in
    let item = c.entry-item.result in
    let tried = rw c.as_slice.ensures at (c.in_ok-go_along.ensures so_far.now so_far.are) in
    goes_on (λ (e : Bor (List Change)). e.now) leads c.args.folder.now.files c.args.entries.now _ _ so_far c.loop-entry-test.true item c.entry-item.is (effects so_far.now item.now) _ (tried.are c.if-not-branch.false)
    (entry_made so_far.now item.now _ (sym c.if-not-branch.false ∙ tried.reported))

pub returns : goal.returns
returns c =
    let so_far = c.loop-entry.invariant in
    sym (all_entries_made so_far.now) ∙ ends (λ (e : Bor (List Change)). e.now) leads c.args.folder.now.files c.args.entries.now _ _ so_far c.loop-entry-test.false
