use Rattle.par2_matrix.proofs.Names.{◌≡◌, ◌∙◌, arith, length, rules, lists_of, length-lists_of, clear_step, clear_pass, put_at, place_within}
use Rattle.par2_matrix.proofs.elimination.put_in.Goals.{then-not-is_empty, else-not-is_empty}
use Rattle.par2_matrix.proofs.elimination.put_in.Goals as goal

pub loop-p-preserved : goal.loop-p-preserved
loop-p-preserved g c =
    let l = c.loop-p in
    let rows = lists_of c.args.rows.now in
    let right_sides = lists_of c.args.right_sides.now in
    elim c.if-not-is_empty.branch [
      | then-not-is_empty w ↦
          rw (w.rows-is, w.right_sides-is)
          (clear_step c.args.q l.p w.new-factor.result c.args.row.items c.args.right.items c.buffer_at-target.result.now rows right_sides (lists_of l.rows) (lists_of l.right_sides) (lists_of w.add_row.new.lists) (lists_of w.add_row-then-not-is_empty.new.lists)
          l.invariant c.buffer_at-target.ensures (w.new-factor.ensures ∙ w.element.ensures) w.add_row.ensures.changed (rw w.deref.ensures.value at w.add_row.ensures.added)
          w.add_row-then-not-is_empty.ensures.changed (rw w.deref-then-not-is_empty.ensures.value at w.add_row-then-not-is_empty.ensures.added) w.add_row-then-not-is_empty.ensures.bytes)
      | else-not-is_empty w ↦
          let none : length c.buffer_at-target.result.now ≡ 0 = search rules in
          rw (w.rows-is, w.right_sides-is)
          (clear_pass c.args.q l.p c.args.row.items c.args.right.items c.buffer_at-target.result.now rows right_sides (lists_of l.rows) (lists_of l.right_sides)
          l.invariant c.buffer_at-target.ensures none (c.requires.1.1.absent l.p))
    ]

pub returns : goal.returns
returns g c =
    let l = c.loop-p in
    let rows = lists_of c.args.rows.now in
    let right_sides = lists_of c.args.right_sides.now in
    let n = length c.args.rows.now in
    put_at c.args.q l.p rows right_sides l.rows l.right_sides c.args.row c.args.right
    (place_within l.rows rows c.args.q n c.requires.0 l.invariant.row_count c.requires.1.1.row_count)
    (place_within l.right_sides right_sides c.args.q n c.requires.0 l.invariant.right_count c.requires.1.1.right_count)
    (rw c.deref-2.ensures.value at c.fit_bytes.ensures) (rw c.deref-3.ensures.value at c.fit_bytes-2.ensures) (omega (arith, length-lists_of c.args.rows.now)) l.invariant
