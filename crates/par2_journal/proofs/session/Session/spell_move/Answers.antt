use Rattle.par2_journal.proofs.Names.{◌≡◌, [], length, get_or, sym, ap, subst, ◌∙◌, CanWalk, FolderState, KeptSession, Moving, fingerprint, way_back, entries_for, kept_journal, moved, next_changes, state_files, at_end, each_after, folders_count, both_spelled, moved_back, moved_entry, moved_files, moved_some, back_length}
use Rattle.par2_journal.proofs.session.Session.spell_move.Goals.{In-Some}
use Rattle.par2_journal.proofs.session.Session.spell_move.Goals as goal

-- the entry that takes it back
way : (c : In-Some) → c.in-Some.back.now ≡ way_back c.args.self.now.folder.files (next_changes c.args.next c.args.self.now)
way c = c.in-Some.ensures.entry ∙ (λ i. next_changes (c.opposite.ensures i) (c.go.ensures i)) ∙ moved_entry c.args.next c.args.self.now

pub both-answer-requires : goal.both-answer-requires
both-answer-requires c =
    let s = c.args.self.now in
    ap length (each_after c.args.fingerprints.now _ _ c.requires.along)
    ∙ folders_count s.folder.files (next_changes c.args.next s)
    ∙ sym (ap length (way (goal.at.both-answer-requires c).In-Some) ∙ back_length s.folder (next_changes c.args.next s))

pub unreachable-requires : goal.unreachable-requires
unreachable-requires c = moved_some c.args.next c.args.self.now (sym (λ i. entries_for (c.opposite.ensures i) (c.go.ensures i)) ∙ c.next_entry.ensures.none c.in-None.is)

pub returns-clause-unchanged : goal.returns-clause-unchanged
returns-clause-unchanged c =
    c.go-2.ensures ∙ (λ i. moved (c.opposite-2.ensures i) (c.go.ensures i)) ∙ moved_back c.args.next c.args.self.now (subst CanWalk c.self.view_is c.self.invariant.walks) c.requires.some

pub returns-clause-spelled : goal.returns-clause-spelled
returns-clause-spelled c =
    let s = c.args.self.now in
    let cs = next_changes c.args.next s in
    let there = ap (λ (t : KeptSession). t.folder.files) c.go.ensures ∙ ap (λ (f : FolderState). f.files) (moved_files c.args.next s) ∙ state_files s.folder cs in
    both_spelled c.both-answer.result (Moving c.args.next) s c.in_ok-front.front.items _ c.in-Some.back.now _ _ c.in_ok-front.ensures
    (c.parts.ensures.journal (ap (λ l. get_or l 0 []) c.requires.along)) (each_after c.args.fingerprints.now _ _ c.requires.along) (way (goal.at.returns-clause-spelled c).In-Some)
    (c.parts-after.ensures.journal (at_end c.args.fingerprints.now _ _ c.requires.along ∙ ap fingerprint (sym there)) ∙ ap kept_journal c.go.ensures)
    c.both-answer.ensures.halfway c.both-answer.ensures.after
