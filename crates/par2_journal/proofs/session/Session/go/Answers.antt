use Rattle.par2_journal.proofs.Names.{◌≡◌, ◌≢◌, ◌<◌, ◌+◌, ◌-◌, [], length, length-set, ap, subst, ◌∙◌, arith, sym, vec_len, vec_capacity, KeptSession, kept_undone, kept_redone, kept_session, Next, entries_for, moved, undo_there, redo_there, undo_taken, undone_to, undone_walks, next_undo_is, redo_taken, redone_to, redone_walks, next_redo_is}
use Rattle.par2_journal.proofs.session.Session.go.Goals.{In-Undo, In-Redo}
use Rattle.par2_journal.proofs.session.Session.go.Goals as goal

-- there is an entry before the cursor for an undo
before : (c : In-Undo) → record { one : c.self.inside.cursor - 1 + 1 ≡ c.self.inside.cursor; within : c.self.inside.cursor - 1 < length c.self.inside.entries.items }
before c =
    let some = undo_there c.self.inside.entries.items c.self.inside.cursor (subst (λ (p : Next × KeptSession). entries_for p.0 p.1 ≢ []) (λ i. (c.in-Undo.is i, sym c.self.view_is i)) c.requires) in
    let least = c.self.invariant.within in
    record { one = omega (arith, some); within = omega (arith, some, least) }

-- and one at it for a redo
at_cursor : (c : In-Redo) → c.self.inside.cursor < length c.self.inside.entries.items
at_cursor c = redo_there c.self.inside.entries.items c.self.inside.cursor (subst (λ (p : Next × KeptSession). entries_for p.0 p.1 ≢ []) (λ i. (c.in-Redo.is i, sym c.self.view_is i)) c.requires)

-- ---- an undo

pub apply_and_invert-requires : goal.apply_and_invert-requires
apply_and_invert-requires c =
    let at = before (goal.at.apply_and_invert-requires c).In-Undo in
    undo_taken _ _ at.within c.index_mut.result.now c.index_mut.ensures.value c.self.inside.cursor at.one c.self.inside.folder _ c.self.invariant.walks

pub invariant_of-self : goal.invariant_of-self
invariant_of-self c =
    let xs = c.self.inside.entries.items in
    let n = c.self.inside.cursor in
    let at = before (goal.at.invariant_of-self c).In-Undo in
    record {
      within = omega (arith, at.within, length-set xs (n - 1) c.apply_and_invert.new.self);
      walks = undone_walks xs (n - 1) at.within c.index_mut.result.now c.index_mut.ensures.value c.self.inside.folder c.apply_and_invert.new.folder _ c.apply_and_invert.new.self c.apply_and_invert.ensures.folder c.apply_and_invert.ensures.way_back n at.one c.self.invariant.walks;
      checkpoints = c.none.ensures _;
      along = tt;
    }

pub returns-in-Undo : goal.returns-in-Undo
returns-in-Undo c =
    let xs = c.self.inside.entries.items in
    let n = c.self.inside.cursor in
    let at = before (goal.at.returns-in-Undo c).In-Undo in
    let entry = c.index_mut.result.now in
    undone_to xs (n - 1) at.within entry c.index_mut.ensures.value c.self.inside.folder c.apply_and_invert.new.folder (vec_capacity c.self.inside.entries - vec_len c.self.inside.entries) c.apply_and_invert.new.self c.apply_and_invert.ensures.folder c.apply_and_invert.ensures.way_back n at.one
    ∙ ap (kept_undone (kept_session c.self.inside)) (sym (next_undo_is xs (n - 1) at.within entry c.index_mut.ensures.value n at.one))
    ∙ (λ i. moved (sym c.in-Undo.is i) (c.self.view_is i))

-- ---- a redo

pub apply_and_invert-requires-in-Redo : goal.apply_and_invert-requires-in-Redo
apply_and_invert-requires-in-Redo c =
    let within = at_cursor (goal.at.apply_and_invert-requires-in-Redo c).In-Redo in
    redo_taken _ _ within c.index_mut-in-Redo.result.now c.index_mut-in-Redo.ensures.value c.self.inside.folder _ c.self.invariant.walks

pub invariant_of-self-in-Redo : goal.invariant_of-self-in-Redo
invariant_of-self-in-Redo c =
    let xs = c.self.inside.entries.items in
    let i = c.self.inside.cursor in
    let within = at_cursor (goal.at.invariant_of-self-in-Redo c).In-Redo in
    let made = c.apply_and_invert-in-Redo in
    record {
      within = omega (arith, within, length-set xs i made.new.self);
      walks = redone_walks xs i within c.index_mut-in-Redo.result.now c.index_mut-in-Redo.ensures.value c.self.inside.folder made.new.folder _ made.new.self made.ensures.folder made.ensures.way_back c.self.invariant.walks;
      checkpoints = c.none.ensures _;
      along = tt;
    }

pub returns-in-Redo : goal.returns-in-Redo
returns-in-Redo c =
    let xs = c.self.inside.entries.items in
    let i = c.self.inside.cursor in
    let within = at_cursor (goal.at.returns-in-Redo c).In-Redo in
    let entry = c.index_mut-in-Redo.result.now in
    let made = c.apply_and_invert-in-Redo in
    redone_to xs i within entry c.index_mut-in-Redo.ensures.value c.self.inside.folder made.new.folder (vec_capacity c.self.inside.entries - vec_len c.self.inside.entries) made.new.self made.ensures.folder made.ensures.way_back
    ∙ ap (kept_redone (kept_session c.self.inside)) (sym (next_redo_is xs i within entry c.index_mut-in-Redo.ensures.value))
    ∙ (λ i. moved (sym c.in-Redo.is i) (c.self.view_is i))
