use Rattle.par2_packets.proofs.Common.{◌≡◌, length, accepted, rest_of}
use Rattle.par2_packets.proofs.scan.next_packet.Given as goal

abbrev pub invariant-loop-place : goal.invariant-loop-place
invariant-loop-place l = accepted (rest_of l.cursor) ≡ accepted (rest_of l.fn.cursor)

abbrev pub decreases-loop-place : goal.decreases-loop-place
decreases-loop-place l = length (rest_of l.cursor)
