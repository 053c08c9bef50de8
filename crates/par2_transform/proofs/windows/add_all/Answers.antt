use Rattle.par2_transform.proofs.Names.{◌<◌, arith, length, subst, lists_of, AddsAt, Keeps, cut_of, block_part, is_block_at, none_added, next_added, one_set}
use Rattle.par2_transform.proofs.windows.add_all.Goals as goal

pub loop-j-init : goal.loop-j-init
loop-j-init c = none_added c.args.columns.now.outputs.places.now c.args.columns.now.outputs.words (cut_of c.args.class.now.plan) c.args.class.now.plan.block c.args.class.now.number c.args.columns.now.from c.args.columns.now.to c.args.blocks.now (lists_of c.args.buffers.now)

pub loop-j-preserved : goal.loop-j-preserved
loop-j-preserved c =
    let plan = c.args.class.now.plan in
    let columns = c.args.columns.now in
    let j = c.loop-j.j in
    let before = lists_of c.loop-j.buffers in
    let buffers = lists_of c.add_to.new.buffers in
    let low : j < length c.loop-j.blocks = omega (arith, c.loop-j.invariant.kept.count, c.loop-j-test.true) in
    next_added columns.outputs.places.now columns.outputs.words (cut_of plan) plan.block c.args.class.now.number columns.from columns.to j c.args.blocks.now c.loop-j.blocks _ (lists_of c.args.buffers.now) before buffers c.loop-j.invariant
    (one_set Keeps c.loop-j.blocks j c.index-blocks-j.result c.add_to.new.self low c.add_to.ensures.kept)
    (subst (λ b. AddsAt columns.outputs.places.now columns.outputs.words (block_part (cut_of plan) plan.block c.args.class.now.number columns.from columns.to b j) before buffers)
    (is_block_at c.loop-j.blocks j c.index-blocks-j.result low) c.add_to.ensures.added)
