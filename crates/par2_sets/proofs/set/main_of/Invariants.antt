use Rattle.par2_sets.proofs.Common.{◌≡◌, map, drop, main_of, packet_view}
use Rattle.par2_sets.proofs.set.main_of.Given as goal

abbrev pub invariant-loop-packet : goal.invariant-loop-packet
invariant-loop-packet l = main_of l.id (map packet_view (drop l.packet-index l.packets)) ≡ main_of l.id (map packet_view l.packets)
