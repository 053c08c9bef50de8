use Rattle.par2_sets.proofs.Common.{◌≡◌, ◌++◌, ◌||◌, ◌&&◌, map, list_all, list_any, bytes_eq, packets_with, packet_view, remaining_packets}
use Rattle.par2_sets.proofs.set.add_packets.Given as goal

abbrev pub invariant-loop-packet : goal.invariant-loop-packet
invariant-loop-packet l =
    let rest = remaining_packets l.packet-iterator in
    let whole = remaining_packets l.fn.found in
    (map packet_view l.kept.items ++ packets_with l.id rest ≡ map packet_view l.initial.kept.items ++ packets_with l.id whole)
    × (((l.any || list_any (λ p. bytes_eq p.set_id l.id) rest) ≡ list_any (λ p. bytes_eq p.set_id l.id) whole)
    × ((l.all && list_all (λ p. bytes_eq p.set_id l.id) rest) ≡ list_all (λ p. bytes_eq p.set_id l.id) whole))
