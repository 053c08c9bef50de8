use Rattle.par2_files.proofs.Names.{Remove, ◌≡◌, false, is_before, ◌-◌, ◌∙◌, [], ◌∷◌, ap, length, drop, arith, subst, sym, length-drop, take_all, HasAbsorbed, HaveAbsorbed, buffers_of, bytes_before, folder_in, At, further, absorbed_at, absorbed_behind, as_many, in_range}
use Rattle.par2_files.proofs.walk.checkpoint_at.Goals.{After-deref}
use Rattle.par2_files.proofs.walk.checkpoint_at.Goals as goal

-- the first state has absorbed the files before the name, and the others the buffers
held : (c : After-deref) → HaveAbsorbed c.in_ok-states.states.items (bytes_before (At c.args.name) (folder_in c.in_ok-snapshot.field-0) ∷ buffers_of c.args.beside.now)
held c =
    let before = subst (λ f. HasAbsorbed c.start.result.1 (bytes_before c.start.result.0 f)) (sym c.in_ok-snapshot.ensures) (c.start.ensures.states c.args.folder.now.files c.requires).0 in
    c.in_ok-states.ensures _ (c.in_ok-with_first.ensures _ (c.in_ok-pending.ensures before))

pub pending_between-requires : goal.pending_between-requires
pending_between-requires c = further c.start.result.0 c.args.name (subst (λ name. is_before c.start.result.0 name ≡ false) c.copied.ensures (c.start.ensures.behind 0 (Remove c.copied.result) (omega arith)))

pub slice_bounds-digests_of-count : goal.slice_bounds-digests_of-count
slice_bounds-digests_of-count c = omega (arith, as_many _ _ (held (goal.at.slice_bounds-digests_of-count c).After-deref), ap length c.deref.ensures.value)

pub slice_bounds-digests_of-start : goal.slice_bounds-digests_of-start
slice_bounds-digests_of-start c = omega (arith, as_many _ _ (held (goal.at.slice_bounds-digests_of-start c).After-deref), ap length c.deref.ensures.value)

pub index-requires : goal.index-requires
index-requires c = omega (arith, as_many _ _ (held (goal.at.index-requires c).After-deref), ap length c.deref.ensures.value, c.deref.ensures.len)

pub returns-clause-checkpoints : goal.returns-clause-checkpoints
returns-clause-checkpoints c =
    let states = c.in_ok-states.states.items in
    let files = c.args.folder.now.files in
    let all = held (goal.at.returns-clause-checkpoints c).After-deref in
    let first = absorbed_at states _ 0 c.index.result.now all (in_range states 0 _ _ all) in
    let state = subst (λ state. HasAbsorbed state (bytes_before (At c.args.name) (folder_in c.in_ok-snapshot.field-0))) (sym c.index.ensures) first in
    c.in_ok-mark.ensures.checkpoints files (c.none-checkpoints.ensures files) (subst (λ f. HasAbsorbed c.index.result.now (bytes_before (At c.args.name) f)) c.in_ok-snapshot.ensures state)

pub returns-clause-beside : goal.returns-clause-beside
returns-clause-beside c =
    let buffers = buffers_of c.args.beside.now in
    let rest = take_all (length c.deref.result.now - 1) (drop 1 c.deref.result.now) (omega (arith, length-drop 1 c.deref.result.now)) ∙ ap (drop 1) c.deref.ensures.value in
    c.in_ok-beside.ensures buffers (subst (λ s. HaveAbsorbed s buffers) (sym rest) (absorbed_behind c.in_ok-states.states.items 0 _ buffers (held (goal.at.returns-clause-beside c).After-deref)))
