use Rattle.par2_solve.proofs.Names.{◌≡◌, length, take, lists_of, all_coefficients}
use Rattle.par2_solve.proofs.additions.rows_over.Given as goal

abbrev pub invariant-loop-i : goal.invariant-loop-i
invariant-loop-i l = lists_of l.rows.items ≡ all_coefficients (length l.transform.slices.now) (take l.i l.exponents)
