use Rattle.par2_packets.proofs.Names.{length, sym, ap, ◌∙◌, MainBody, ids_count}
use Rattle.par2_packets.proofs.views.MainView.count.Goals as goal

pub returns : goal.returns
returns c = c.u32_at.ensures ∙ sym (ids_count c.self.inside.body.now) ∙ ap (λ (m : MainBody). length m.ids) c.self.view_is
