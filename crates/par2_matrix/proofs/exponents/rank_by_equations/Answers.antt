use Rattle.par2_matrix.proofs.Names.{full-iff, rules, sym}
use Rattle.par2_matrix.proofs.exponents.rank_by_equations.Goals as goal

pub returns-then-branch : goal.returns-then-branch
returns-then-branch c = sym ((full-iff c.args.lost.now c.args.exponents.now c.requires).1 (c.in_ok-determine.ensures (search rules)))
