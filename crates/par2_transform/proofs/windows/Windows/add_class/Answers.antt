use Rattle.par2_transform.proofs.Names.{◌+◌, sym, subst, lists_of, within, AddsAt, class_sum_at, words_at, cut_of, class_added, nothing_added}
use Rattle.par2_transform.proofs.windows.Windows.add_class.Goals as goal

pub returns-then-self-eq3-clause-added : goal.returns-then-self-eq3-clause-added
returns-then-self-eq3-clause-added c =
    let self = c.args.self.now in
    let buffers = lists_of c.args.buffers.now in
    subst (λ r. AddsAt c.args.columns.now.outputs.places.now c.args.columns.now.outputs.words (λ t p. within c.args.columns.now.from c.args.columns.now.to p (class_sum_at (cut_of self.plan) (words_at self.slices p) (self.first + t) r)) buffers buffers) (sym c.if-r-eq0.true)
    (nothing_added c.args.columns.now.outputs.places.now c.args.columns.now.outputs.words (cut_of self.plan) self.slices self.first c.args.columns.now.from c.args.columns.now.to buffers c.if-self-eq3.true)

pub returns-clause-added : goal.returns-clause-added
returns-clause-added c =
    let self = c.args.self.now in
    class_added c.args.columns.now.outputs.places.now c.args.columns.now.outputs.words (cut_of self.plan) self.slices self.plan.columns self.plan.block c.args.r c.args.columns.now.from c.args.columns.now.to self.first c.args.blocks.now c.gather.new.blocks (lists_of c.args.buffers.now) (lists_of c.add_all.new.buffers)
    self.few self.bytes c.requires.ready.cover.each c.gather.ensures.gathered self.plan.fit self.plan.some.1.0 c.requires.ready.cover.covered c.requires.fits.narrow c.add_all.ensures.added
