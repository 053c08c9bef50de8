use Rattle.par2_solve.proofs.Names.{adds_group, arith, byte_lists, length, lists_of, ◌≤◌}
use Rattle.par2_solve.proofs.additions.add_by_groups.Goals.{After-group_end-to}
use Rattle.par2_solve.proofs.additions.add_by_groups.Goals as goal

order : (c : After-group_end-to) → c.loop-at.at ≤ c.group_end-to.result
order c = omega (arith, c.group_end-to.ensures.beyond)

fits : (c : After-group_end-to) → c.group_end-to.result ≤ length c.args.targets.now.outputs.places.now
fits c = omega (arith, c.group_end-to.ensures.within, c.args.targets.now.count)

pub loop-at-preserved : goal.loop-at-preserved
loop-at-preserved c =
    let at = (goal.at.loop-at-preserved c).After-group_end-to in
    record {
      added = adds_group c.args.targets.now.outputs.places.now c.part-outputs.result.places.now c.args.targets.now.outputs.words c.part-outputs.result.words c.loop-at.at c.group_end-to.result c.args.targets.now.exponents.now (byte_lists c.args.transform.now.slices.now) (lists_of c.args.buffers.now) (lists_of c.loop-at.buffers) (lists_of c.add_group.new.buffers) (order at) (fits at) c.args.targets.now.outputs.apart
          c.part-outputs.ensures.places c.part-outputs.ensures.words c.loop-at.invariant.added c.in_ok-add_group.ensures;
      within = c.group_end-to.ensures.within;
    }
