use Rattle.par2_transform.proofs.Names.{◌≡◌, ◌+◌, ◌*◌, ◌^◌, ◌<◌, ◌≤◌, ◌∙◌, refl, sym, subst, arith, length, pow_mono, div_ceil_times, cut_of, BlocksMade, next_block}
use Rattle.par2_transform.proofs.recovery.blocks_of.Goals as goal

pub loop-j-preserved : goal.loop-j-preserved
loop-j-preserved c =
    let plan = c.args.plan.now in
    let j = c.loop-j.j in
    subst (BlocksMade (cut_of plan) plan.columns c.args.first plan.block (j + 1)) (sym c.in_ok-push.ensures.items)
    (next_block (cut_of plan) plan.columns c.args.first plan.block j (c.args.first + j * plan.block) c.loop-j.blocks.items c.in_ok-new.field-0 c.loop-j.invariant c.in_ok-new.ensures refl)

pub returns : goal.returns
returns c =
    let plan = c.args.plan.now in
    let count = c.args.count in
    let all : length c.loop-j.blocks.items ≡ c.div_ceil-j-end.result = omega (arith, c.loop-j.invariant.count, c.loop-j-test.false, c.loop-j.auto.j-end) in
    let reach = div_ceil_times count plan.block (let some = plan.some.1.0 in omega (arith, some)) in
    let points : 2 ^ plan.levels ≤ 2 ^ 16 = pow_mono {i = plan.levels} {j = 16} plan.few_levels in
    let few : length c.loop-j.blocks.items * plan.block < count + plan.block = subst (λ n. n * plan.block < count + plan.block) (sym (all ∙ c.div_ceil-j-end.ensures)) reach.1 in
    record {
      each = c.loop-j.invariant.are;
      covered = subst (λ n. count ≤ n * plan.block) (sym (all ∙ c.div_ceil-j-end.ensures)) reach.0;
      few = omega (arith, few, points, plan.fit, c.requires);
    }
