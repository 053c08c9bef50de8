use Rattle.par2_transform.proofs.Names.{cut_of, BlocksMade}
use Rattle.par2_transform.proofs.recovery.blocks_of.Given as goal

abbrev pub invariant-loop-j : goal.invariant-loop-j
invariant-loop-j l = BlocksMade (cut_of l.plan) l.plan.columns l.first l.plan.block l.j l.blocks.items
