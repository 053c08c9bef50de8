use Rattle.par2_md5_lanes.proofs.Common.{◌≡◌, ◌≤◌, ◌<◌, [], length, take, drop, bytes_left, part_bytes}
use Rattle.par2_md5_lanes.proofs.blocks.Feed.fill.Given as goal

abbrev pub invariant-loop-filled : goal.invariant-loop-filled
invariant-loop-filled l = record {
  room : l.filled ≤ length l.blocks;
  size : length l.blocks ≡ length l.fn.blocks;
  within : l.filled ≤ length (bytes_left l.fn.self);
  bytes : take l.filled l.blocks ≡ take l.filled (bytes_left l.fn.self);
  rest : bytes_left l.self ≡ drop l.filled (bytes_left l.fn.self);
  done : l.filled < length l.blocks → drop l.self.at (part_bytes l.self.part) ≡ [];
}

abbrev pub decreases-loop-filled : goal.decreases-loop-filled
decreases-loop-filled l = length l.self.parts.now
