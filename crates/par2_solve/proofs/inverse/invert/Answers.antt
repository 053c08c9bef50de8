use Rattle.par2_solve.proofs.Names.{InvertsFirst, are_inverse, kept_first, length, length-lists_of, lists_of, more_determine, refl, sym, ◌∙◌}
use Rattle.par2_solve.proofs.inverse.invert.Goals.{In-Some}
use Rattle.par2_solve.proofs.inverse.invert.Goals as goal

first : (c : In-Some) → InvertsFirst c.args.lost.now.numbers.now c.args.exponents.now.numbers.now c.in-Some.inverse
first c = rw c.in-Some.is at c.in_ok-inverse.ensures

pub returns-in-Some-clause-found : goal.returns-in-Some-clause-found
returns-in-Some-clause-found c =
    let reported = first (goal.at.returns-in-Some-clause-found c).In-Some in
    record {
      kept = c.in_ok-kept.ensures.items ∙ sym (kept_first c.args.lost.now.numbers.now c.args.exponents.now.numbers.now c.args.exponents.now.rise reported.within reported.enough);
      inverse = rw c.in_ok-kept.ensures.items reported.inverts;
    }

pub returns-in-Some-clause-enough : goal.returns-in-Some-clause-enough
returns-in-Some-clause-enough c = λ _.
    let reported = first (goal.at.returns-in-Some-clause-enough c).In-Some in
    more_determine c.args.lost.now.numbers.now c.args.exponents.now.numbers.now (length c.args.lost.now.numbers.now) reported.enough

pub returns-clause-found : goal.returns-clause-found
returns-clause-found c =
    let buffers = c.in-Ok.buffers.items in
    record {
      kept = c.in_ok-kept-2.ensures.are_kept;
      inverse = are_inverse c.args.lost.now.numbers.now c.args.exponents.now.numbers.now _ _ (lists_of buffers) (lists_of c.in_ok-rows_of.field-0.items) c.in_ok-kept-2.ensures c.in-Ok.ensures.ok (c.in-Ok.ensures.when.0 refl)
          (rw (c.deref.ensures.value, ← length-lists_of buffers) at c.in_ok-rows_of.ensures);
    }
