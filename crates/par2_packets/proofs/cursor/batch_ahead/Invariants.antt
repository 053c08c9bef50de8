use Rattle.par2_packets.proofs.Common.{◌≡◌, ◌≤◌, ◌<◌, ◌+◌, ℕ, length, slice_index}
use Rattle.par2_packets.proofs.cursor.batch_ahead.Given as goal

abbrev pub invariant-loop : goal.invariant-loop
invariant-loop l = record {
  some : 1 ≤ l.count;
  few : l.count < 16;
  place : l.place ≤ length l.fn.bytes;
  first : slice_index l.starts 0 ≡ l.fn.at;
  within : (k : ℕ) → k < 16 → slice_index l.starts k + l.fn.len ≤ length l.fn.bytes;
}
