use Rattle.par2_matrix.proofs.Names.{◌<◌, length, rules, inl, inr, lists_of, reduce_add, reduce_pass}
use Rattle.par2_matrix.proofs.elimination.reduce.Goals.{then-factor-ne0+then-not-is_empty, else-factor-ne0, else-factor-ne0-via-then-factor-ne0+else-not-is_empty, else-factor-ne0-via-else-factor-ne0}
use Rattle.par2_matrix.proofs.elimination.reduce.Goals as goal

pub loop-p-preserved : goal.loop-p-preserved
loop-p-preserved g c =
    let l = c.loop-p in
    let n = length c.args.rows.now in
    let b = length c.args.right.now in
    let rows = lists_of c.args.rows.now in
    let right_sides = lists_of c.args.right_sides.now in
    let es = c.buffer_at-source.ensures in
    let ek = c.element-factor.ensures in
    elim c.if-factor-ne0.branch [
      | then-factor-ne0+then-not-is_empty w ↦
          let there : 0 < length c.buffer_at-source.result.now = search rules in
          rw (w.row-is, w.right-is)
          (reduce_add n b g.rank rows right_sides c.args.row.now c.args.right.now l.row l.right _ _ l.p c.requires.0 c.loop-p-test.true (rw es at there) (rw ek at c.element-factor.type_inv)
          (rw (w.new-multiple.ensures, ek, es) at w.mul_add_by.ensures) (rw (w.new-multiple.ensures, ek, w.buffer_at.ensures) at w.mul_add_by-then-not-is_empty.ensures) l.invariant)
      | else-factor-ne0 w ↦ rw (w.row-is, w.right-is)
          (reduce_pass n b rows right_sides c.args.row.now c.args.right.now l.row l.right c.buffer_at-source.result.now l.p c.element-factor.result ek es
          (elim w.else-factor-ne0.branch [
            | else-factor-ne0-via-then-factor-ne0+else-not-is_empty v ↦ inr (search rules)
            | else-factor-ne0-via-else-factor-ne0 v ↦ inl (search rules)
          ])
          l.invariant)
    ]
