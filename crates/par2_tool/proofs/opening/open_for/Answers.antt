use Rattle.par2_tool.proofs.Names.{err_from_is_err_and, Some, Ok, sym, ap, subst, ◌∙◌, Vec, ℕ, inl, inr, refl, IfOk, option_map, Global, Started, started_of, IsOpened, WasRead, bytes_read, keeps_on, opens_after_reading, reads_opens, opened_as_is, opened_new, stands}
use Rattle.par2_tool.proofs.opening.open_for.Goals.{After-open_with}
use Rattle.par2_tool.proofs.opening.open_for.Goals as goal

pub returns-in_default-clause-opened : goal.returns-in_default-clause-opened
returns-in_default-clause-opened g c =
    let old = g.S.Store.contents c.args.store.now in
    let files = c.in_ok-folder.folder.files in
    let opened = started_of c.without_history.result in (
      opened,
      inl refl,
      λ honest.
          let read = subst (λ journal. WasRead old files (option_map (λ (bytes : Vec ℕ Global). bytes.items) journal)) c.in_default.is (c.in_ok-folder.ensures.read honest) in
          subst (λ k. IsOpened old k opened) (sym (c.read_store.ensures.reads.same honest))
          (subst (λ (s : Started). IsOpened old old s) (sym c.without_history.ensures) (opened_new old files read)),
    )

pub returns-then-branch-clause-opened : goal.returns-then-branch-clause-opened
returns-then-branch-clause-opened g c =
    let old = g.S.Store.contents c.args.store.now in
    let files = c.in_ok-folder.folder.files in
    let bytes = c.deref.result.now in
    let is = ap Ok c.if-branch.true in
    let found = c.in_ok-needs_no_history.ensures.opens is in
    let standing = ap (λ (t : Started). t.session.folder) c.without_history-then-branch.ensures in (
      found.0,
      inr (c.in_ok-needs_no_history.ensures.verify is, found.2 ∙ sym standing),
      λ honest.
          let read = bytes_read old files c.in_ok-folder.journal c.in-Some.bytes bytes (c.in_ok-folder.ensures.read honest) c.in-Some.is c.deref.ensures.value in
          subst (λ k. IsOpened old k found.0) (sym (c.read_store.ensures.reads.same honest)) (opened_as_is old files bytes found.0 read found.1 found.2),
    )

-- what was read is what the store holds
read_so : (g : _) (c : After-open_with g) → g.S.Store.honest c.args.store.now → WasRead (g.S.Store.contents c.args.store.now) c.in_ok-folder.folder.files (Some c.deref-2.result.now)
read_so g c honest =
    bytes_read (g.S.Store.contents c.args.store.now) c.in_ok-folder.folder.files c.in_ok-folder.journal c.in-Some.bytes c.deref-2.result.now
    (c.in_ok-folder.ensures.read honest) c.in-Some.is c.deref-2.ensures.value

pub returns-clause-opened : goal.returns-clause-opened
returns-clause-opened g c =
    let new = g.S.Store.contents c.open_with.new.store in
    let result = c.open_with.result in
    stands _ (g.S.Store.honest c.args.store.now) result (g.S.Store.contents c.args.store.now) new
    (λ honest. subst (λ k. WasRead k c.in_ok-folder.folder.files (Some c.deref-2.result.now) → IfOk result (λ s. IsOpened k new (started_of s))) (c.read_store.ensures.reads.same honest)
    (λ read. (c.open_with.ensures.opens (c.read_store.ensures.reads.honest honest) read).0) (read_so g (goal.at.returns-clause-opened g c).After-open_with honest))

pub returns-clause-opens : goal.returns-clause-opens
returns-clause-opens g c honest =
    let reads = c.read_store.ensures.reads in
    let read = subst (λ k. WasRead k c.in_ok-folder.folder.files (Some c.deref-2.result.now)) (sym (reads.same honest)) (read_so g (goal.at.returns-clause-opens g c).After-open_with honest) in
    opens_after_reading g.S.Store c.args.store.now c.read_store.new.store c.open_with.new.store c.open_with.result reads honest (c.read_store.ensures.possible honest)
    (c.open_with.ensures.opens (reads.honest honest) read).1

pub returns-clause-keeps : goal.returns-clause-keeps
returns-clause-keeps g c = keeps_on g.S.Store c.args.store.now c.read_store.new.store c.open_with.new.store _ c.open_with.result c.in_ok-folder.ensures.keeps c.open_with.ensures.keeps

pub returns-in_err-folder-clause-opens : goal.returns-in_err-folder-clause-opens
returns-in_err-folder-clause-opens g c honest =
    let p = err_from_is_err_and c.from_residual.result c.from_residual.ensures.1 in
    reads_opens g.S.Store c.args.store.now c.read_store.new.store c.from_residual.result c.read_store.ensures.reads honest (c.read_store.ensures.possible honest)
    (rw (p.1, p.2) (c.in_err-folder.ensures.refused honest))

pub returns-in_default-clause-opens : goal.returns-in_default-clause-opens
returns-in_default-clause-opens g c honest =
    reads_opens g.S.Store c.args.store.now c.read_store.new.store _ c.read_store.ensures.reads honest (c.read_store.ensures.possible honest) tt

pub returns-in_err-needs_no_history-clause-opens : goal.returns-in_err-needs_no_history-clause-opens
returns-in_err-needs_no_history-clause-opens g c honest =
    let p = err_from_is_err_and c.from_residual-in_err-needs_no_history.result c.from_residual-in_err-needs_no_history.ensures.1 in
    reads_opens g.S.Store c.args.store.now c.read_store.new.store c.from_residual-in_err-needs_no_history.result c.read_store.ensures.reads honest (c.read_store.ensures.possible honest)
    (rw (p.1, p.2) (c.read_store.ensures.reads.same honest))

pub returns-then-branch-clause-opens : goal.returns-then-branch-clause-opens
returns-then-branch-clause-opens g c honest =
    reads_opens g.S.Store c.args.store.now c.read_store.new.store _ c.read_store.ensures.reads honest (c.read_store.ensures.possible honest) tt
