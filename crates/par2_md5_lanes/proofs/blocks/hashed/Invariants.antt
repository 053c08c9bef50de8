use Rattle.par2_md5_lanes.proofs.Common.{◌≡◌, ◌*◌, ◌/◌, ◌%◌, length, drop, slice_index, hash_behind, bytes_left, lane}
use Rattle.par2_md5_lanes.proofs.blocks.hashed.Given as goal

abbrev pub invariant-loop-feed : goal.invariant-loop-feed
invariant-loop-feed l = record {
  hash : hash_behind (lane slice_index 0 l.state) (bytes_left l.feed) (length (bytes_left l.feed) / 64) ≡ hash_behind l.fn.hash (bytes_left l.initial.feed) (length (bytes_left l.initial.feed) / 64);
  block : length l.block ≡ 64;
  size : length (bytes_left l.feed) % 64 ≡ length (bytes_left l.initial.feed) % 64;
  rest : drop (length (bytes_left l.feed) / 64 * 64) (bytes_left l.feed) ≡ drop (length (bytes_left l.initial.feed) / 64 * 64) (bytes_left l.initial.feed);
}

abbrev pub decreases-loop-feed : goal.decreases-loop-feed
decreases-loop-feed l = length (bytes_left l.feed)
