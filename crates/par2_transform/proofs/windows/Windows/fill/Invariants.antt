use Rattle.par2_transform.proofs.Names.{HaveFirst, cut_of, coefficients_from}
use Rattle.par2_transform.proofs.windows.Windows.fill.Given as goal

abbrev pub invariant-loop-i : goal.invariant-loop-i
invariant-loop-i l = HaveFirst l.i (coefficients_from (cut_of l.self.plan) l.self.slices l.r l.a l.from) l.fn.rows l.rows
