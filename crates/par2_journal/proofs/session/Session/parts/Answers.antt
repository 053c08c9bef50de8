use Rattle.par2_journal.proofs.Names.{[], ◌++◌, ◌-◌, sym, ap, append-nil, ◌∙◌, vec_len, vec_capacity, KeptSession, fingerprint, kept_journal, settled_at, settled_with}
use Rattle.par2_journal.proofs.session.Session.parts.Goals as goal

pub returns-clause-journal : goal.returns-clause-journal
returns-clause-journal c print =
    let s = c.self.inside in
    let same = print ∙ ap (λ (t : KeptSession). fingerprint t.folder.files) (sym c.self.view_is) in
    let entries = ap (λ es. es ++ []) c.deref.ensures.value ∙ append-nil s.entries.items in
    (λ i. settled_with (same i) s.cursor (entries i))
    ∙ settled_at s.entries.items s.cursor c.self.invariant.within s.folder (vec_capacity s.entries - vec_len s.entries)
    ∙ ap kept_journal c.self.view_is
