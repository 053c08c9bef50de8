use Rattle.par2_slices.proofs.Names.{[], ◌∙◌, ap, fold, get_or, sym, crc_byte, fold_group}
use Rattle.par2_slices.proofs.checksum.after_groups.Goals as goal

pub loop-group-preserved : goal.loop-group-preserved
loop-group-preserved c =
    c.after_sixteen-after.ensures ∙ ap (λ r. fold crc_byte r (get_or c.args.groups.now c.loop-group.group-index [])) c.loop-group.invariant ∙ sym (fold_group c.args.remainder c.args.groups.now c.loop-group.group-index [] c.loop-group-test.true)
