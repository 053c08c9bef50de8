use Rattle.par2_packets.proofs.Common.{◌+◌, ◌*◌, min, AreDigested}
use Rattle.par2_packets.proofs.undigested.digest_recoveries.Given as goal

abbrev pub invariant-loop-group : goal.invariant-loop-group
invariant-loop-group l = AreDigested (68 + l.size) 0 (min l.count (l.group * 1024)) l.initial.packets l.packets
