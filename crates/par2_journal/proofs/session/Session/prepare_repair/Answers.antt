use Rattle.par2_journal.proofs.Names.{◌≡◌, List, ℕ, Bool, Some, map, string_bytes, sym, subst, Global, err_from_is_err_and, Repair, FolderState, String, IsDraft, Draft, ok_no_err, early_refusal, ap, ◌∙◌, takes_all, prints_along, draft_ready, draft_refused}
use Rattle.par2_journal.proofs.session.Session.prepare_repair.Goals as goal

-- the draft is of the folder that is borrowed
draft_here : (f g : FolderState) (base : List ℕ) (extras : List (String Global)) (purge : Bool) (draft : Draft) → f ≡ g → IsDraft f.files base (map string_bytes extras) purge draft → IsDraft g.files base (map string_bytes extras) purge draft
draft_here f g base extras purge draft same is = subst (λ (s : FolderState). IsDraft s.files base (map string_bytes extras) purge draft) same is

pub make_way-requires : goal.make_way-requires
make_way-requires c = (draft_here c.folder.result.now c.args.self.now.folder c.args.base.now c.args.extras.now c.args.purge c.in_ok-draft.draft c.folder.ensures.folder c.in_ok-draft.ensures.draft).applies

pub digests-requires-clause-applies : goal.digests-requires-clause-applies
digests-requires-clause-applies c = ap (takes_all c.make_way.new.self.folder) c.as_slice.ensures ∙ c.in_ok-steps.ensures.can.0

pub returns-in_err-tested-clause-ready : goal.returns-in_err-tested-clause-ready
returns-in_err-tested-clause-ready c =
    let is = draft_here c.folder.result.now c.args.self.now.folder c.args.base.now c.args.extras.now c.args.purge c.in_ok-draft.draft c.folder.ensures.folder c.in_ok-draft.ensures.draft in
    let refused = c.from_residual-in_err-tested in
    draft_refused refused.result c.args.self.now c.make_way.new.self c.args.base.now (map string_bytes c.args.extras.now) c.args.purge c.in_ok-draft.draft c.in_err-tested.field-0.0
    (err_from_is_err_and refused.result refused.ensures.1) c.make_way.ensures.kept is c.in_err-tested.ensures.wrong c.in_err-tested.ensures.refused
    (λ fault found. ok_no_err _ _ (c.in_ok-draft.ensures.early fault (subst (λ (f : FolderState). early_refusal f.files (Repair c.args.base.now (map string_bytes c.args.extras.now) c.args.purge) ≡ Some fault) (sym c.folder.ensures.folder) found)))

pub returns-clause-ready : goal.returns-clause-ready
returns-clause-ready c =
    let is = draft_here c.folder.result.now c.args.self.now.folder c.args.base.now c.args.extras.now c.args.purge c.in_ok-draft.draft c.folder.ensures.folder c.in_ok-draft.ensures.draft in
    let way = c.in_ok-steps.ensures in
    let tested = c.in_ok-tested.ensures in
    draft_ready c.args.self.now c.make_way.new.self c.args.base.now (map string_bytes c.args.extras.now) c.args.purge c.in_ok-draft.draft c.in_ok-tested.field-0 c.in_ok-steps.steps c.in_ok-found.found.along
    c.make_way.ensures.kept is tested.right tested.changes way.can way.steps (c.in_ok-found.ensures.along ∙ ap (prints_along c.make_way.new.self.folder.files) c.as_slice.ensures)
    (λ fault found. ok_no_err _ _ (c.in_ok-draft.ensures.early fault (subst (λ (f : FolderState). early_refusal f.files (Repair c.args.base.now (map string_bytes c.args.extras.now) c.args.purge) ≡ Some fault) (sym c.folder.ensures.folder) found)))

pub returns-clause-written : goal.returns-clause-written
returns-clause-written c =
    let is = draft_here c.folder.result.now c.args.self.now.folder c.args.base.now c.args.extras.now c.args.purge c.in_ok-draft.draft c.folder.ensures.folder c.in_ok-draft.ensures.draft in
    record { described = is.written c.in_ok-tested.ensures.right; few = is.few }
