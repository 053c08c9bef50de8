use Rattle.par2_packets.proofs.Names.{◌≡◌, ◌++◌, take, flat_map, pair_bytes}
use Rattle.par2_packets.proofs.append.append_ifsc.Given as goal

abbrev pub invariant-loop-md5 : goal.invariant-loop-md5
invariant-loop-md5 l = l.body.items ≡ l.initial.body.items ++ flat_map pair_bytes (take l.md5-index l.md5-items)
