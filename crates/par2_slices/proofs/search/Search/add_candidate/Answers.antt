use Rattle.par2_slices.proofs.Names.{◌≡◌, ◌∙◌, ◌+◌, ℕ, List, true, false, ap₂, sym, subst, md5, padded, Candidate, IsScannedTo, compared, pushed}
use Rattle.par2_slices.proofs.search.Search.add_candidate.Goals as goal
use Rattle.par2_slices.proofs.search.Search.add_candidate.Goals.{After-push}

pub returns-then-not-is_whole : goal.returns-then-not-is_whole
returns-then-not-is_whole c =
    let scan = c.args.scan.now in
    let o : ℕ = c.args.offset in
    let before = c.args.self.now in
    let after = c.answer.new.self in
    subst (λ (batch : List Candidate). IsScannedTo scan (o + 1) after.found.items after.left after.filter batch) (sym c.answer.ensures.batch)
    (compared scan o before.found.items after.found.items before.left after.left before.filter after.filter before.batch.items c.padded_md5-md5.result c.args.crc
    c.requires.window.at (c.requires.short (λ whole. let both : true ≡ false = sym (c.is_whole.ensures.1 whole) ∙ c.if-not-is_whole.true in cc)) (c.padded_md5-md5.ensures ∙ ap₂ (λ s bytes. md5 (padded s bytes)) c.size.ensures.value c.window.ensures) c.requires.window.crc c.answer.ensures.tally c.answer.ensures.each)

-- the candidate is the last of the batch
pushed_at : (c : After-push) → IsScannedTo c.args.scan.now (c.args.offset + 1) c.args.self.now.found.items c.args.self.now.left c.args.self.now.filter c.push.new.self.items
pushed_at c =
    let scan = c.args.scan.now in
    let before = c.args.self.now in
    subst (λ (batch : List Candidate). IsScannedTo scan (c.args.offset + 1) before.found.items before.left before.filter batch) (sym c.push.ensures.items)
    (pushed scan c.args.offset c.args.crc before.found.items before.left before.filter before.batch.items c.requires.window.at (c.is_whole.ensures.0 c.if-not-is_whole.false) c.requires.window.crc)

pub returns-then-self : goal.returns-then-self
returns-then-self c = c.compare_batch.ensures.at (c.args.offset + 1) (pushed_at (goal.at.returns-then-self c).After-push)

pub returns-else-self : goal.returns-else-self
returns-else-self c = pushed_at (goal.at.returns-else-self c).After-push
