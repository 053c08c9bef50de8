use Rattle.par2_packets.proofs.Common.{◌≡◌, ◌≤◌, ◌+◌, ◌-◌, ◌==◌, length, take, suffix_len}
use Rattle.par2_packets.proofs.views.stripped.Given as goal

abbrev pub invariant-loop-len : goal.invariant-loop-len
invariant-loop-len l = record {
  within : l.len ≤ length l.bytes;
  zeros : suffix_len (λ b. b == 0) (take l.len l.bytes) + (length l.bytes - l.len) ≡ suffix_len (λ b. b == 0) l.bytes;
}

abbrev pub decreases-loop-len : goal.decreases-loop-len
decreases-loop-len l = l.len
