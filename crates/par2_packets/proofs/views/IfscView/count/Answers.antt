use Rattle.par2_packets.proofs.Names.{length, sym, ap, ◌∙◌, IfscBody, pairs_count}
use Rattle.par2_packets.proofs.views.IfscView.count.Goals as goal

pub returns : goal.returns
returns c = sym (pairs_count c.self.inside.body.now) ∙ ap (λ (i : IfscBody). length i.pairs) c.self.view_is
