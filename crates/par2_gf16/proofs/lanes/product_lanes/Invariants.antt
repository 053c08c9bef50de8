use Rattle.par2_gf16.proofs.Common.{LanesSoFar}
use Rattle.par2_gf16.proofs.lanes.product_lanes.Given as goal

abbrev pub invariant-loop-j : goal.invariant-loop-j
invariant-loop-j l = LanesSoFar l.c l.fn.v l.sum l.rest l.k l.j
