use Rattle.par2_transform.proofs.Names.{◌+◌, ◌∙◌, IfOk-weaker, Adds, byte_lists, recovered, are_whole}
use Rattle.par2_transform.proofs.recovery.Transform.add_recovery_slices.Goals as goal

pub returns : goal.returns
returns c =
    let whole = are_whole c.args.words c.new-outputs.result c.in_ok-places.places.items c.args.buffers.now c.in_ok-places.ensures (c.new-outputs.ensures.places ∙ c.deref.ensures.value) c.new-outputs.ensures.words c.requires.size in
    IfOk-weaker c.add_recovery_slices_at.result (λ _. Adds c.new-outputs.result (λ t p. recovered (byte_lists c.args.self.now.slices.now) (c.args.first + t) p) c.args.buffers.now c.add_recovery_slices_at.new.buffers) _ (λ _ added. whole.each _ _ added) c.add_recovery_slices_at.ensures
