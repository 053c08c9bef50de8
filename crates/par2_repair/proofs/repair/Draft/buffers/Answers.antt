use Rattle.par2_repair.proofs.Common.{◌∙◌, ap, map, take_all, buffers_written, arith, append-nil, map_more, map-append, filter_map-append, change_of}
use Rattle.par2_repair.proofs.repair.Draft.buffers.Goals as goal

pub loop-change-preserved : goal.loop-change-preserved
loop-change-preserved c =
    grind (arith, map_more change_of c.as_slice-change-items.result.now c.loop-change.change-index c.change-item.result c.loop-change-test.true, filter_map-append, map-append, append-nil)

pub returns : goal.returns
returns c = c.loop-change.invariant ∙ ap (λ cs. buffers_written (map change_of cs)) (take_all c.loop-change.change-index c.as_slice-change-items.result.now c.loop-change-test.false) ∙ ap buffers_written c.as_slice-change-items.ensures
