use Rattle.par2_md5_lanes.proofs.Names.{◌≡◌, length, length-drop, ◌∙◌, arith, bytes_left, post_of, at_the_end, blocks_more, kept_rest}
use Rattle.par2_md5_lanes.proofs.tasks.LaneTask.advance.Goals as goal

pub returns-then-count-lt64 : goal.returns-then-count-lt64
returns-then-count-lt64 g c =
    let task = c.args.self.now in
    let hash = g.H.Hashes.at c.args.k c.args.state.now in
    let all : c.fill-count.result ≡ length (bytes_left task.feed) = omega (arith, c.fill-count.ensures.count, c.if-count-lt64.true, c.told-block) in
    record {
      leads = λ last rest held.
          let ended = at_the_end task.hash task.rest (bytes_left task.feed) hash last rest c.fill-count.result c.in-None.is all c.if-count-lt64.true held in (
            ◌∙◌ {b = hash} c.in_lane.ensures ended.0,
            kept_rest (bytes_left task.feed) rest c.fill-count.new.blocks c.copy_from_slice.new.self (post_of 0 c.fill-count.result task.rest) c.fill-count.result c.copy_from_slice.ensures.after c.fill-count.ensures.bytes all ended.1,
          );
      shrinks = omega arith;
    }

pub returns-else-count-lt64 : goal.returns-else-count-lt64
returns-else-count-lt64 g c =
    let task = c.args.self.now in
    let bytes = bytes_left task.feed in
    let count = c.fill-count.ensures.count in
    record {
      leads = λ last rest.
          blocks_more task.hash task.rest bytes (bytes_left c.fill-count.new.self) c.fill-count.new.blocks (g.H.Hashes.at c.args.k c.args.state.now) last rest 1 c.fill-count.result c.in-None.is
          (omega (arith, count, c.told-block, c.if-count-lt64.false)) (omega (arith, count)) c.fill-count.ensures.bytes c.fill-count.ensures.rest;
      shrinks = grind (arith, length-drop);
    }
