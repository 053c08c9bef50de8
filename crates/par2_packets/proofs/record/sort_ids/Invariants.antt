use Rattle.par2_packets.proofs.Common.{◌<◌, AllAdjacentBelow, record_id_number}
use Rattle.par2_packets.proofs.record.sort_ids.Given as goal

abbrev pub invariant-loop-i : goal.invariant-loop-i
invariant-loop-i l = AllAdjacentBelow (λ a b. record_id_number a < record_id_number b) l.files l.i
