use Rattle.par2_packets.proofs.Common.{◌+◌, AreDigested}
use Rattle.par2_packets.proofs.undigested.digest_group.Given as goal

abbrev pub invariant-loop-k : goal.invariant-loop-k
invariant-loop-k l = AreDigested l.len l.first (l.first + l.k) l.initial.packets l.packets
