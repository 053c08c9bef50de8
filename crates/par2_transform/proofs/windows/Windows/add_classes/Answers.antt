use Rattle.par2_transform.proofs.Names.{arith, ◌≡◌, subst, lists_of, cut_of, ClassesAdded, no_class, next_class, all_classes}
use Rattle.par2_transform.proofs.windows.Windows.add_classes.Goals as goal

pub loop-r-init : goal.loop-r-init
loop-r-init c =
    let self = c.args.self.now in
    no_class c.args.columns.now.outputs.places.now c.args.columns.now.outputs.words (cut_of self.plan) self.slices self.plan.columns self.first self.plan.block c.args.columns.now.from c.args.columns.now.to c.args.rows.now c.args.blocks.now (lists_of c.args.buffers.now) c.requires.ready.size c.requires.ready.cover

pub loop-r-preserved : goal.loop-r-preserved
loop-r-preserved c =
    let self = c.args.self.now in
    let e = c.add_class.ensures in
    next_class c.args.columns.now.outputs.places.now c.args.columns.now.outputs.words (cut_of self.plan) self.slices self.plan.columns self.first self.plan.block c.args.columns.now.from c.args.columns.now.to c.loop-r.r c.loop-r.rows c.add_class.new.rows c.loop-r.blocks c.add_class.new.blocks
    (lists_of c.args.buffers.now) (lists_of c.loop-r.buffers) (lists_of c.add_class.new.buffers) c.loop-r.invariant e.ready.size e.ready.cover e.added

pub returns-clause-added : goal.returns-clause-added
returns-clause-added c =
    let self = c.args.self.now in
    let cut = cut_of self.plan in
    let was = lists_of c.args.buffers.now in
    let buffers = lists_of c.loop-r.buffers in
    let end : c.loop-r.r ≡ self.plan.classes = omega (arith, c.loop-r-test.false, c.loop-r.auto.r-end) in
    all_classes c.args.columns.now.outputs.places.now c.args.columns.now.outputs.words cut self.slices self.plan.columns self.first self.plan.block c.args.columns.now.from c.args.columns.now.to c.loop-r.rows c.loop-r.blocks was buffers self.few self.bytes self.reaches
    (subst (λ n. ClassesAdded c.args.columns.now.outputs.places.now c.args.columns.now.outputs.words cut self.slices self.plan.columns self.first self.plan.block c.args.columns.now.from c.args.columns.now.to n c.loop-r.rows c.loop-r.blocks was buffers) end c.loop-r.invariant)
