use Rattle.par2_packets.proofs.Common.{◌≡◌, ◌++◌, replicate, flat_map, range_with_len, undigested}
use Rattle.par2_packets.proofs.undigested.with_undigested.Given as goal

abbrev pub invariant-loop-k : goal.invariant-loop-k
invariant-loop-k l = l.all.items ≡ l.initial.all.items ++ flat_map (λ e. undigested l.set_id e (replicate l.size 0)) (range_with_len l.first l.k)
