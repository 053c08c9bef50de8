use Rattle.par2_transform.proofs.Names.{List, ℕ, Adds, ◌≡◌, ◌+◌, ◌∙◌, sym, subst, arith, length, with_items_is, lists_of, CoverOutputs, cut_of, recovered, Places, begins, no_words, next_words, all_words, columns_within}
use Rattle.par2_transform.proofs.recovery.Transform.add_group.Goals as goal

pub columns-columns-requires : goal.columns-columns-requires
columns-columns-requires c = begins c.args.outputs.now.words c.in_ok-windows.windows.plan.columns c.loop-k.k c.div_ceil-k-end.result (let some = c.in_ok-windows.windows.plan.some.1.1 in omega (arith, some)) c.div_ceil-k-end.ensures c.loop-k-test.true

pub loop-k-init : goal.loop-k-init
loop-k-init c =
    let self = c.in_ok-windows.windows in
    let plan = self.plan in
    let blocks = c.in_ok-blocks.blocks.items in
    record {
      rows = record { levels = c.in_ok-rows.ensures.levels; words = c.in_ok-rows.ensures.words };
      cover = subst (λ (n : ℕ). CoverOutputs (cut_of plan) plan.columns n plan.block (length c.args.outputs.now.places.now) blocks) (sym c.in_ok-windows.ensures.first)
          (subst (λ (n : ℕ). CoverOutputs (cut_of plan) plan.columns c.args.first plan.block n blocks) c.len.ensures c.in_ok-blocks.ensures);
      added = no_words c.args.outputs.now plan.columns (λ t p. recovered self.slices (self.first + t) p) (lists_of c.args.buffers.now);
    }

pub loop-k-preserved : goal.loop-k-preserved
loop-k-preserved c =
    let self = c.in_ok-windows.windows in
    let plan = self.plan in
    let l = c.loop-k in
    let blocks = c.add_classes.new.blocks in
    let is = c.columns-columns.ensures in
    let e = c.add_classes.ensures in
    let after = with_items_is l.blocks blocks (c.add_classes.auto.blocks ∙ c.as_mut_slice.ensures.len) in
    let low = begins c.args.outputs.now.words plan.columns l.k c.div_ceil-k-end.result (let some = plan.some.1.1 in omega (arith, some)) c.div_ceil-k-end.ensures c.loop-k-test.true in
    record {
      rows = e.ready.size;
      cover = subst (CoverOutputs (cut_of plan) plan.columns self.first plan.block (length c.args.outputs.now.places.now)) (sym after)
          (subst (λ (o : Places). CoverOutputs (cut_of plan) plan.columns self.first plan.block (length o.places.now) blocks) is.outputs e.ready.cover);
      added = next_words c.args.outputs.now c.columns-columns.result plan.columns l.k (λ t p. recovered self.slices (self.first + t) p) (lists_of c.args.buffers.now) (lists_of l.buffers) (lists_of c.add_classes.new.buffers)
          l.invariant.added low is.outputs is.from is.to e.added;
    }

pub returns : goal.returns
returns c =
    let self = c.in_ok-windows.windows in
    let l = c.loop-k in
    let end : l.k ≡ c.div_ceil-k-end.result = omega (arith, c.loop-k-test.false, l.auto.k-end) in
    subst (λ (xs : List (List ℕ)). Adds c.args.outputs.now (λ t p. recovered xs (c.args.first + t) p) c.args.buffers.now l.buffers) c.in_ok-windows.ensures.slices
    (subst (λ (n : ℕ). Adds c.args.outputs.now (λ t p. recovered self.slices (n + t) p) c.args.buffers.now l.buffers) c.in_ok-windows.ensures.first
    (all_words c.args.outputs.now self.plan.columns l.k (λ t p. recovered self.slices (self.first + t) p) (lists_of c.args.buffers.now) (lists_of l.buffers) (let some = self.plan.some.1.1 in omega (arith, some)) (end ∙ c.div_ceil-k-end.ensures) l.invariant.added))

pub add_classes-requires-clause-ready : goal.add_classes-requires-clause-ready
add_classes-requires-clause-ready c =
    let self = c.in_ok-windows.windows in
    let covers = CoverOutputs (cut_of self.plan) self.plan.columns self.first self.plan.block in
    let blocks = subst (covers (length c.args.outputs.now.places.now)) (sym c.as_mut_slice.ensures.value) c.loop-k.invariant.cover in
    record { size = c.loop-k.invariant.rows; cover = subst (λ (o : Places). covers (length o.places.now) c.as_mut_slice.result.now) (sym c.columns-columns.ensures.outputs) blocks }

pub add_classes-requires-clause-fits : goal.add_classes-requires-clause-fits
add_classes-requires-clause-fits c =
    let is = c.columns-columns.ensures in
    record { narrow = omega (arith, is.from, is.to); room = columns_within c.args.outputs.now c.columns-columns.result _ (lists_of c.args.buffers.now) (lists_of c.loop-k.buffers) is.outputs c.loop-k.invariant.added c.requires.room }
