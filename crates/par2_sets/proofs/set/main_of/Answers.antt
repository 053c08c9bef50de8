use Rattle.par2_sets.proofs.AnswerNames.{◌≡◌, ◌<◌, ℕ, List, Option, Some, true, length, get_or, map, drop, arith, bytes_eq, MainBody, read_main, main_of, packet_view, common_steps, md5}
use Rattle.par2_packets.specs.declared.scan.Packet as scan
use Rattle.par2_sets.proofs.set.main_of.Goals as goal

found : (id : List ℕ) (packets : List scan.Packet) (i : ℕ) (p : scan.Packet) (main : MainBody) (read : Option MainBody) (digest : List ℕ) → i < length packets
    → read ≡ read_main (packet_view (get_or packets i p)).kind (packet_view (get_or packets i p)).body → read ≡ Some main
    → digest ≡ md5 (packet_view (get_or packets i p)).body → true ≡ bytes_eq digest id
    → main_of id (map packet_view (drop i packets)) ≡ main_of id (map packet_view packets) → Some main ≡ main_of id (map packet_view packets)
found id packets i p main read digest low reads is digested same so_far = grind (arith, common_steps)

pub returns-in-loop-packet : goal.returns-in-loop-packet
returns-in-loop-packet c =
    found c.args.id.now c.args.packets.now c.loop-packet.packet-index _ c.in-Some.main c.read_main.result c.digest.result
    c.loop-packet-test.true c.read_main.ensures c.in-Some.is c.digest.ensures c.if-eq.ensures c.loop-packet.invariant
