use Rattle.par2_md5_lanes.proofs.Names.{◌≤◌, ◌*◌, ◌∙◌, ap, arith, length, length-append, length-drop, refl, take, take-take, at_hand, bytes_left, message_of, blocks_more}
use Rattle.par2_md5_lanes.proofs.tasks.LaneTask.take.Goals as goal

pub returns-in-None-clause-progress : goal.returns-in-None-clause-progress
returns-in-None-clause-progress c hash =
    let task = c.args.self.now in
    let bytes = bytes_left task.feed in
    let n = c.args.count in
    let there : n * 64 ≤ length (at_hand task.feed) = c.requires.blocks c.in-None.is in
    let room : n * 64 ≤ length bytes = omega (arith, there, length-append (at_hand task.feed) (message_of task.feed.parts.now)) in
    let taken = c.take_at_hand in
    record {
      leads = λ last rest. blocks_more task.hash task.rest bytes (bytes_left taken.new.self) taken.result.now hash last rest n (n * 64) c.in-None.is refl room
          (ap (take (n * 64)) taken.ensures.bytes ∙ take-take (n * 64) (n * 64) bytes (omega arith)) taken.ensures.rest;
      shrinks = grind (arith, length-drop);
    }
