use Rattle.par2_solve.proofs.Names.{arith, inl, inr}
use Rattle.par2_solve.proofs.additions.group_end.Goals as goal

pub returns-then-are_together-clause-room : goal.returns-then-are_together-clause-room
returns-then-are_together-clause-room c =
    inl c.run_end-end.ensures.run

pub returns-then-are_together-2-clause-room : goal.returns-then-are_together-2-clause-room
returns-then-are_together-2-clause-room c = inr (omega arith)

pub returns-clause-room : goal.returns-clause-room
returns-clause-room c = inr (omega arith)
