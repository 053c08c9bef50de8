use Rattle.par2_journal.proofs.Common.{ap, subst, ◌∙◌, IfOk, Journal, Spells, KeptSession, fingerprint}
use Rattle.par2_journal.proofs.session.Session.encode.Goals as goal

pub returns : goal.returns
returns c =
    subst (λ (j : Journal). IfOk c.encode.result (λ bytes. Spells bytes.items j))
    (c.parts.ensures.journal (c.in_ok-fingerprint.ensures ∙ ap (λ (s : KeptSession). fingerprint s.folder.files) c.self.view_is))
    c.encode.ensures
