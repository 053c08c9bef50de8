use Rattle.par2_md5_lanes.proofs.Names.{◌≢◌, ◌<◌, ℕ, List, ◌∙◌, [], ap, arith, length, length-set, get_or-set_other, get_or-set_same, hash_behind, digest_at, set, progress_more}
use Rattle.par2_md5_lanes.proofs.tasks.advance_all.Goals as goal

pub loop-k-preserved : goal.loop-k-preserved
loop-k-preserved g c =
    let k = c.loop-k.k in
    let held = c.loop-k.invariant in
    let blocks = c.loop-k.blocks in
    let block = c.advance.new.block in
    let at : ℕ → List ℕ = λ j. g.H.Hashes.at j c.args.state.now in
    let within : k < length c.loop-k.tasks = omega (arith, c.loop-k-test.true, c.loop-k.auto.tasks) in
    let there : k < length blocks = omega (arith, held.blocks, c.requires.own, c.requires.few, c.loop-k-test.true, c.loop-k.auto.tasks) in
    record {
      blocks = length-set blocks k block ∙ held.blocks;
      progress = progress_more c.args.tasks.now c.loop-k.tasks c.advance.new.self _ at (λ j. hash_behind (at j) (digest_at blocks j) 1) (λ j. hash_behind (at j) (digest_at (set blocks k block) j) 1) _ k 1
          within (λ none. held.kept k none (omega arith))
          (λ j below. ap (λ bytes. hash_behind (at j) bytes 1) (get_or-set_other blocks k j block [] (omega (arith, below))))
          (ap (λ bytes. hash_behind (at k) bytes 1) (get_or-set_same blocks k block [] there)) c.advance.ensures held.progress;
      kept = λ j none h. let other : j ≢ k = omega arith in rw get_or-set_other (held.kept j none (omega arith));
    }

pub returns : goal.returns
returns g c k none low = c.loop-k.invariant.progress k none (omega (arith, low, c.loop-k-test.false, c.loop-k.auto.tasks))
