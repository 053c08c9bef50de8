use Rattle.par2_md5_lanes.proofs.Names.{◌∙◌, ap, arith, length, sym, bytes_here}
use Rattle.par2_md5_lanes.proofs.as_buffers.Goals as goal

pub returns-clause-size : goal.returns-clause-size
returns-clause-size g c k low =
    ap length (sym (bytes_here c.loop-k.buffers k (omega (arith, low, c.loop-k.invariant.count)))) ∙ c.loop-k.invariant.size k (omega (arith, low, c.loop-k-test.false))
