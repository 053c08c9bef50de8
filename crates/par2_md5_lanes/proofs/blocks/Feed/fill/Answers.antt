use Rattle.par2_md5_lanes.proofs.Names.{◌≡◌, ◌∙◌, ap, refl, length, length-drop, drop, arith, drop_all, bytes_left, message_of, part_bytes, filled_more, rest_more, within_more}
use Rattle.par2_md5_lanes.proofs.blocks.Feed.fill.Goals as goal

pub loop-filled-preserved : goal.loop-filled-preserved
loop-filled-preserved c =
    let whole = bytes_left c.args.self.now in
    let held = c.loop-filled.invariant in
    let f = c.loop-filled.filled in
    let copied = c.copy_part-filled-in-loop-filled in
    let r = copied.result in
    let feed = c.next_part.new.self in
    let rest : bytes_left feed ≡ drop f whole = c.if-next_part.ensures.same ∙ held.rest in
    let piece = drop feed.at (part_bytes feed.part) in
    record {
      room = omega (arith, copied.ensures.count, copied.auto.block, held.size);
      size = copied.auto.block ∙ held.size;
      within = within_more whole (bytes_left feed) piece (message_of feed.parts.now) f r _ rest refl held.within copied.ensures.count;
      bytes = filled_more whole (bytes_left feed) c.loop-filled.blocks copied.new.block f r rest held.bytes copied.ensures.after;
      rest = rest_more whole (bytes_left feed) (bytes_left copied.new.self) f r rest copied.ensures.rest;
      done = λ short. copied.ensures.part ∙ drop_all r piece (omega (arith, copied.ensures.count, held.size));
    }

pub returns-else-next_part-clause-count : goal.returns-else-next_part-clause-count
returns-else-next_part-clause-count c =
    let held = c.loop-filled.invariant in
    let none = c.if-next_part.ensures.end refl in
    omega (arith, held.within, ap length held.rest, ap length none, length-drop c.loop-filled.filled (bytes_left c.args.self.now))
