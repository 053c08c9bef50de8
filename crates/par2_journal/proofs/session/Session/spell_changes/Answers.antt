use Rattle.par2_journal.proofs.Names.{◌≡◌, ◌+◌, ◌-◌, ◌++◌, ◌∷◌, [], true, length, take, get_or, vec_len, vec_capacity, fingerprint, effects, way_back, state_files, kept_done, kept_journal, Changing, sym, ap, subst, ◌∙◌, takes_all, FolderState, KeptSession, kept_session, IsKeptSession, at_end, each_after, folders_count, both_spelled, done_at, settled_with, back_taken, back_leads, back_again, back_length}
use Rattle.par2_journal.proofs.session.Session.spell_changes.Goals.{After-apply_and_invert, After-apply_and_invert-2}
use Rattle.par2_journal.proofs.session.Session.spell_changes.Goals as goal

pub both-answer-requires : goal.both-answer-requires
both-answer-requires c =
    ap length (each_after c.args.fingerprints.now _ _ c.requires.along)
    ∙ folders_count c.args.self.now.folder.files c.args.changes.now
    ∙ sym (ap length c.apply_and_invert.ensures.way_back ∙ back_length c.self.inside.folder c.args.changes.now)

-- the changes apply to the folder
taken : (c : After-apply_and_invert) → takes_all c.self.inside.folder c.args.changes.now ≡ true
taken c = ap (λ (s : KeptSession). takes_all s.folder c.args.changes.now) c.self.view_is ∙ c.requires.applies

-- and the way back leads back to it
same : (c : After-apply_and_invert-2) → c.apply_and_invert-2.new.folder ≡ c.self.inside.folder
same c =
    let made = c.apply_and_invert.ensures in
    c.apply_and_invert-2.ensures.folder ∙ back_leads c.self.inside.folder c.apply_and_invert.new.folder c.args.changes.now c.apply_and_invert.new.self (ap (λ (s : KeptSession). takes_all s.folder c.args.changes.now) c.self.view_is ∙ c.requires.applies) made.folder made.way_back

pub apply_and_invert-requires-2 : goal.apply_and_invert-requires-2
apply_and_invert-requires-2 c =
    let made = c.apply_and_invert.ensures in
    back_taken c.self.inside.folder c.apply_and_invert.new.folder c.args.changes.now c.apply_and_invert.new.self (taken (goal.at.apply_and_invert-requires-2 c).After-apply_and_invert) made.folder made.way_back

pub invariant_of-self : goal.invariant_of-self
invariant_of-self c =
    subst (λ (f : FolderState). IsKeptSession (record (c.self.inside) { folder = f })) (sym (same (goal.at.invariant_of-self c).After-apply_and_invert-2)) c.self.invariant

pub returns-clause-unchanged : goal.returns-clause-unchanged
returns-clause-unchanged c =
    ap (λ (f : FolderState). kept_session (record (c.self.inside) { folder = f })) (same (goal.at.returns-clause-unchanged c).After-apply_and_invert-2) ∙ c.self.view_is

pub returns-clause-changes : goal.returns-clause-changes
returns-clause-changes c =
    let made = c.apply_and_invert.ensures in
    c.apply_and_invert-2.ensures.way_back ∙ back_again c.self.inside.folder c.apply_and_invert.new.folder c.args.changes.now c.apply_and_invert.new.self (taken (goal.at.returns-clause-changes c).After-apply_and_invert) made.folder made.way_back

pub returns-clause-spelled : goal.returns-clause-spelled
returns-clause-spelled c =
    let s = c.self.inside in
    let cs = c.args.changes.now in
    let here = ap (λ (t : KeptSession). t.folder.files) c.self.view_is in
    let way = c.apply_and_invert.ensures.way_back in
    let end = at_end c.args.fingerprints.now _ _ c.requires.along ∙ ap (λ f. fingerprint (effects f cs)) (sym here) ∙ ap fingerprint (sym (state_files s.folder cs)) in
    both_spelled c.both-answer.result (Changing cs) c.args.self.now c.in_ok-front.front.items _ c.apply_and_invert.new.self _ _ c.in_ok-front.ensures
    (c.parts.ensures.journal (ap (λ l. get_or l 0 []) c.requires.along)) (each_after c.args.fingerprints.now _ _ c.requires.along) (way ∙ ap (λ f. way_back f cs) here)
    ((λ i. settled_with (end i) (s.cursor + 1) (take s.cursor (c.deref.ensures.value i) ++ (c.from_ref.ensures.value ∙ ap (λ back. back ∷ []) way) i))
    ∙ done_at s.entries.items s.cursor c.self.invariant.within s.folder (vec_capacity s.entries - vec_len s.entries) cs
    ∙ ap (λ t. kept_journal (kept_done t cs)) c.self.view_is)
    c.both-answer.ensures.halfway c.both-answer.ensures.after
