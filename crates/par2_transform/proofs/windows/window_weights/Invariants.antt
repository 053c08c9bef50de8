use Rattle.par2_transform.proofs.Names.{lists_of, cut_of, WindowsWeighed}
use Rattle.par2_transform.proofs.windows.window_weights.Given as goal

abbrev pub invariant-loop-a : goal.invariant-loop-a
invariant-loop-a l = WindowsWeighed (cut_of l.plan) l.exponent l.a (lists_of l.all.items)
