use Rattle.par2_transform.proofs.Names.{arith, ◌≤◌, ◌^◌, ◌∙◌, cut_of, nothing_so_far, one_window_more, values_of_window}
use Rattle.par2_transform.proofs.windows.Windows.gather.Goals as goal

pub loop-a-init : goal.loop-a-init
loop-a-init c = record {
  rows = c.requires.ready.size;
  blocks = nothing_so_far (cut_of c.args.self.now.plan) c.args.self.now.slices c.args.r c.args.columns.now.from c.args.blocks.now c.clear_all.new.blocks c.clear_all.ensures;
}

pub loop-a-preserved : goal.loop-a-preserved
loop-a-preserved c =
    let plan = c.args.self.now.plan in
    let cut = cut_of plan in
    let slices = c.args.self.now.slices in
    let l = c.loop-a in
    let from = c.args.columns.now.from in
    let filled = c.fill.ensures in
    let values = c.values_at_points.ensures in
    let fits : plan.window ≤ 2 ^ plan.levels = omega (arith, plan.fit, plan.some.1.0) in
    record {
      rows = record { levels = values.levels ∙ filled.levels ∙ l.invariant.rows.levels; words = values.words ∙ filled.words ∙ l.invariant.rows.words };
      blocks = one_window_more plan slices c.args.r from l.a c.args.self.now.first l.rows c.values_at_points.new.rows c.args.blocks.now l.blocks c.gather_all.new.blocks c.requires.ready.cover.each l.invariant.rows.words l.invariant.blocks
          (values_of_window cut slices c.args.r l.a from l.rows c.fill.new.rows c.values_at_points.new.rows fits (filled.levels ∙ l.invariant.rows.levels) filled values) c.gather_all.ensures;
    }
