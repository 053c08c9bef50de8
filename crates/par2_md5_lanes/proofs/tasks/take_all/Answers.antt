use Rattle.par2_md5_lanes.proofs.Names.{◌≢◌, ◌<◌, ◌∙◌, ap, arith, cases_eq, get_or-set_other, inl, inr, length, length-set, hash_behind, buffer_at, set, bytes_set_other, bytes_set_same, progress_more}
use Rattle.par2_md5_lanes.proofs.tasks.take_all.Goals as goal

pub loop-k-preserved : goal.loop-k-preserved
loop-k-preserved c =
    let k = c.loop-k.k in
    let held = c.loop-k.invariant in
    let buffers = c.loop-k.buffers in
    let bytes = c.take.result in
    let n = c.args.batch in
    let within : k < length c.loop-k.tasks = omega (arith, c.loop-k-test.true, c.loop-k.auto.tasks) in
    let low : k < 16 = omega (arith, c.requires.few, c.loop-k-test.true, c.loop-k.auto.tasks) in
    let there : k < length buffers = omega (arith, held.buffers, low) in
    record {
      buffers = length-set buffers k bytes ∙ held.buffers;
      room = λ j h. elim (cases_eq j k) [
        | inl same ↦ rw same (omega (arith, ap length (bytes_set_same buffers k bytes there), c.take.ensures.room))
        | inr other ↦ omega (arith, ap length (bytes_set_other buffers k j bytes other (omega (arith, h, held.buffers))), held.room j h)
      ];
      progress = λ hash. progress_more c.args.tasks.now c.loop-k.tasks c.take.new.self _ hash (λ j. hash_behind (hash j) (buffer_at buffers j) n) (λ j. hash_behind (hash j) (buffer_at (set buffers k bytes) j) n) _ k 1
          within (λ none. held.kept k none (omega arith))
          (λ j below. ap (λ bytes. hash_behind (hash j) bytes n) (bytes_set_other buffers k j bytes (omega (arith, below)) (omega (arith, below, there))))
          (ap (λ bytes. hash_behind (hash k) bytes n) (bytes_set_same buffers k bytes there)) (c.take.ensures.progress (hash k)) (held.progress hash);
      kept = λ j none h. let other : j ≢ k = omega arith in rw get_or-set_other (held.kept j none (omega arith));
    }

pub returns-clause-progress : goal.returns-clause-progress
returns-clause-progress c hash k none low = c.loop-k.invariant.progress hash k none (omega (arith, low, c.loop-k-test.false, c.loop-k.auto.tasks))
