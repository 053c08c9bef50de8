use Rattle.par2_solve.proofs.Names.{◌≡◌, take, lists_of, picked}
use Rattle.par2_solve.proofs.additions.picked.Given as goal

abbrev pub invariant-loop-j : goal.invariant-loop-j
invariant-loop-j l = lists_of l.copies.items ≡ picked l.first (take l.j l.exponents) (lists_of l.lists)
