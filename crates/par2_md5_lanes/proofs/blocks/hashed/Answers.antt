use Rattle.par2_md5_lanes.proofs.Names.{◌≡◌, ◌/◌, ◌∙◌, min, arith, ap, length, slice_index, bytes_left, hash_behind, lane, hash_more, same_rest, size_behind}
use Rattle.par2_md5_lanes.proofs.blocks.hashed.Goals as goal

pub loop-feed-preserved : goal.loop-feed-preserved
unfolding hash_behind
loop-feed-preserved c =
    let bytes = bytes_left c.loop-feed.feed in
    let rest = bytes_left c.fill.new.self in
    let count : c.fill.result ≡ min 64 (length bytes) = omega (arith, c.fill.ensures.count, c.loop-feed.invariant.block) in
    let full = c.loop-feed-test.true in
    let held = c.loop-feed.invariant in
    let hash = lane slice_index 0 c.loop-feed.state in
    record {
      hash = ap (λ h. hash_behind h rest (length rest / 64)) (c.absorbed-state.ensures 0 (omega arith))
          ∙ hash_more bytes rest c.fill.new.blocks hash c.fill.result count full c.fill.ensures.bytes c.fill.ensures.rest
          ∙ held.hash;
      block = c.fill.auto.blocks ∙ held.block;
      size = omega (arith, size_behind bytes rest c.fill.result count full c.fill.ensures.rest, held.size);
      rest = same_rest bytes rest c.fill.result count full c.fill.ensures.rest ∙ held.rest;
    }

pub returns-clause-hash : goal.returns-clause-hash
unfolding hash_behind
returns-clause-hash c =
    let bytes = bytes_left c.loop-feed.feed in
    let none : length bytes / 64 ≡ 0 = omega (arith, c.fill.ensures.count, c.loop-feed.invariant.block, c.loop-feed-test.false) in
    c.in_lane.ensures ∙ (rw none at c.loop-feed.invariant.hash)
