use Rattle.par2_matrix.proofs.Names.{◌≡◌, ◌*◌, length, refl, rules, sym, ◌∙◌, arith, row_sum_empty, pivot_is, room_left}
use Rattle.par2_matrix.proofs.elimination.prepare.Goals as goal

pub returns-in_err-q-clause-none : goal.returns-in_err-q-clause-none
returns-in_err-q-clause-none g c is f elements killed =
    let size : length c.reduce.new.row ≡ 2 * length c.args.rows.now = c.reduce.ensures.row_size in
    sym (c.reduce.ensures.kills f elements killed)
    ∙ row_sum_empty (length c.args.rows.now) c.reduce.new.row f (λ i h. c.in_err-q.ensures.none refl i (omega arith))

pub returns-clause-room : goal.returns-clause-room
returns-clause-room g c =
    room_left _ _ _ _ _ _ _ _ _ _ c.requires.0 c.reduce.ensures c.in_ok-q.ensures.some.0 c.in_ok-q.ensures.some.1

pub returns-clause-some : goal.returns-clause-some
returns-clause-some g c =
    let taken = c.reduce.ensures in
    record {
      bytes0 = c.fit_bytes.ensures;
      right_bytes0 = c.fit_bytes-2.ensures;
      row1 = c.reduce.new.row;
      right1 = c.reduce.new.right;
      taken = taken;
      place = omega (arith, taken.row_size, c.in_ok-q.ensures.some.0);
      nonzero = c.in_ok-q.ensures.some.1;
      bytes1 = c.fit_bytes-3.ensures;
      right_bytes1 = c.fit_bytes-4.ensures;
      factor = c.unwrap-inverse.result;
      is_element = c.unwrap-inverse.type_inv;
      entries = λ i low. c.scale.ensures.each i (omega (arith, taken.row_size)) (omega (arith, taken.row_size));
      buffers = λ w low. c.scale-2.ensures.each w (omega (arith, taken.right_size)) (omega (arith, taken.right_size));
      row_size = search rules;
      right_size = search rules;
      pivot = grind (arith, pivot_is);
    }
