use Rattle.par2_sets.proofs.AnswerNames.{arith, common_steps}
use Rattle.par2_sets.proofs.set.add_packets.Goals as goal

pub loop-packet-preserved-then-eq : goal.loop-packet-preserved-then-eq
loop-packet-preserved-then-eq c = grind (arith, common_steps)
