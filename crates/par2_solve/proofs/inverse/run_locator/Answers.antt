use Rattle.par2_solve.proofs.Names.{ap, arith, constant, drop, length, length-drop, length-map, located_inverse, located_wide, locator, locator_long, rules, slices_of, sym, take_all, ◌∙◌, ◌≡◌, ◌≤◌}
use Rattle.par2_solve.proofs.inverse.run_locator.Goals.{After-deref, In_ok-sequence}
use Rattle.par2_solve.proofs.inverse.run_locator.Goals as goal

some : (c : After-deref) → 1 ≤ length c.deref.result.now
some c = omega (arith, ap length (c.deref.ensures.value ∙ c.in_ok-p.ensures.p), locator_long c.args.lost.now.numbers.now)

sequence_is : (c : In_ok-sequence) → c.in_ok-sequence.sequence.items ≡ drop 1 (locator c.args.lost.now.numbers.now)
sequence_is c = c.in_ok-sequence.ensures.items ∙ take_all _ (drop 1 c.deref.result.now) (omega (arith, length-drop 1 c.deref.result.now)) ∙ ap (drop 1) (c.deref.ensures.value ∙ c.in_ok-p.ensures.p)

pub slice_bounds-from_slice-count : goal.slice_bounds-from_slice-count
slice_bounds-from_slice-count c = some c

pub slice_bounds-from_slice-start : goal.slice_bounds-from_slice-start
slice_bounds-from_slice-start c = let enough = some (goal.at.slice_bounds-from_slice-start c).After-deref in search rules

pub new-requires : goal.new-requires
new-requires c = record {
  few = omega (arith, ap length (sequence_is c), located_wide c.args.lost.now.numbers.now, c.args.lost.now.count);
  factors = c.in_ok-p.ensures.factors.count ∙ sym (ap length c.in_ok-p.ensures.points ∙ length-map c.args.lost.now.numbers.now constant);
}

pub returns : goal.returns
returns c =
    let lost = c.args.lost.now.numbers.now in
    let sequence = c.in_ok-new.ensures.sequence ∙ sequence_is (goal.at.returns c).In_ok-sequence in
    record {
      is_inverse = rw (sequence, c.in_ok-new.ensures.points ∙ c.in_ok-p.ensures.points, c.in_ok-new.ensures.factors) (located_inverse lost c.args.first _ (slices_of c.args.lost.now) c.in_ok-p.ensures.factors);
      wide = ap length sequence ∙ located_wide lost;
    }
