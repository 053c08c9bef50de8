use Rattle.par2_md5_lanes.proofs.Names.{◌≡◌, ◌+◌, ◌*◌, ◌%◌, ap, ap₂, arith, ◌∙◌, length, rules, slice_index, add32, f_fn, g_fn, h_fn, i_fn, lane_words, step_constants, word_of_lane, after_step, first, second, third, fourth}
use Rattle.par2_md5_lanes.proofs.blocks.step.Goals.{in-0, in-1, in-2, in_default}
use Rattle.par2_md5_lanes.proofs.blocks.step.Goals as goal

pub returns : goal.returns
returns g c = λ k h low held.
    let t = c.args.t in
    let size : length c.args.words.now ≡ 16 = search rules in
    let at = g.V.Lanes.at in
    let x = at c.args.state.b k in
    let y = at c.args.state.c k in
    let z = at c.args.state.d k in
    let words = lane_words at k c.args.words.now in
    elim c.match-t-div16.branch [
      | in-0 w ↦
          let its = first t x y z (omega (arith, w.in-0)) in
          let read = word_of_lane at c.args.words.now k t w.index-words-t.result (omega (arith, size)) ∙ ap (slice_index words) its.1 in
          let is : at c.match-t-div16.sum k ≡ add32 (add32 (add32 (at c.args.state.a k) _) (slice_index step_constants t)) (f_fn x y z) =
          rw w.sum-is (w.plus-sum.ensures k low ∙ ap₂ add32 (w.early_sum.ensures k low) (w.f.ensures k low)) in
          after_step h words _ _ t _ _ (c.next_state.ensures k _ _ low is) held its.0 read
      | in-1 w ↦
          let its = second t x y z (omega (arith, w.in-1.is)) (omega (arith, w.in-1.is)) in
          let read = word_of_lane at c.args.words.now k ((5 * t + 1) % 16) w.index-words-t-in-1.result (omega (arith, size)) ∙ ap (slice_index words) its.1 in
          let is : at c.match-t-div16.sum k ≡ add32 (add32 (add32 (at c.args.state.a k) _) (slice_index step_constants t)) (g_fn x y z) =
          rw w.sum-is (w.plus_g-sum.ensures k low ∙ ap (λ n. add32 n (g_fn x y z)) (w.early_sum-in-1.ensures k low)) in
          after_step h words _ _ t _ _ (c.next_state.ensures k _ _ low is) held its.0 read
      | in-2 w ↦
          let its = third t x y z (omega (arith, w.in-2.is)) (omega (arith, w.in-2.is)) in
          let read = word_of_lane at c.args.words.now k ((3 * t + 5) % 16) w.index-words-t-in-2.result (omega (arith, size)) ∙ ap (slice_index words) its.1 in
          let is : at c.match-t-div16.sum k ≡ add32 (add32 (add32 (at c.args.state.a k) _) (slice_index step_constants t)) (h_fn x y z) =
          rw w.sum-is (w.plus-sum-in-2.ensures k low ∙ ap₂ add32 (w.early_sum-in-2.ensures k low) (w.h.ensures k low)) in
          after_step h words _ _ t _ _ (c.next_state.ensures k _ _ low is) held its.0 read
      | in_default w ↦
          let its = fourth t x y z (omega (arith, w.in_default)) in
          let read = word_of_lane at c.args.words.now k (7 * t % 16) w.index-words-t-in_default.result (omega (arith, size)) ∙ ap (slice_index words) its.1 in
          let early = w.early_sum-sum.ensures k low in
          let whole : add32 (at w.early_sum-sum.result k) 1 ≡ add32 (add32 (at c.args.state.a k) _) (slice_index step_constants t) = omega (arith, early) in
          let is : at c.match-t-div16.sum k ≡ add32 (add32 (add32 (at c.args.state.a k) _) (slice_index step_constants t)) (i_fn x y z) =
          rw w.sum-is (w.plus_one_and_i-sum.ensures k low ∙ ap (λ n. add32 n (i_fn x y z)) whole) in
          after_step h words _ _ t _ _ (c.next_state.ensures k _ _ low is) held its.0 read
    ]
