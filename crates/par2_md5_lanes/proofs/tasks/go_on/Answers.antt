use Rattle.par2_md5_lanes.proofs.Names.{◌∙◌, ℕ, List, ap, arith, hash_behind, less_work, progress_twice, some_work}
use Rattle.par2_md5_lanes.proofs.tasks.go_on.Goals as goal

pub take_all-buffers-requires-clause-left : goal.take_all-buffers-requires-clause-left
take_all-buffers-requires-clause-left g c = some_work c.loop-tasks.tasks c.args.k _ (omega (arith, c.requires.within, c.loop-tasks.invariant.tasks)) c.loop-tasks-test.ensures

pub loop-tasks-smaller-then-batch-gt0 : goal.loop-tasks-smaller-then-batch-gt0
loop-tasks-smaller-then-batch-gt0 g c =
    less_work c.loop-tasks.tasks c.take_all-buffers.new.tasks _ _ c.args.k _ c.take_all-buffers.auto.tasks (omega (arith, c.requires.within, c.loop-tasks.invariant.tasks))
    (c.take_all-buffers.ensures.progress (λ k. g.H.Hashes.at k c.loop-tasks.state)) c.loop-tasks-test.ensures

pub loop-tasks-preserved-then-batch-gt0 : goal.loop-tasks-preserved-then-batch-gt0
loop-tasks-preserved-then-batch-gt0 g c =
    let at : ℕ → List ℕ = λ k. g.H.Hashes.at k c.loop-tasks.state in
    record {
      tasks = c.take_all-buffers.auto.tasks ∙ c.loop-tasks.invariant.tasks;
      progress = progress_twice _ _ _ _ at (λ k. g.H.Hashes.at k c.absorbed-state.result) _ 1 c.loop-tasks.invariant.tasks c.loop-tasks.invariant.progress (c.take_all-buffers.ensures.progress at)
          (λ k low. c.absorbed-state.ensures k (omega (arith, low, c.requires.lanes.own)));
    }

pub loop-tasks-smaller : goal.loop-tasks-smaller
loop-tasks-smaller g c =
    less_work c.loop-tasks.tasks c.advance_all.new.tasks _ _ c.args.k _ c.advance_all.auto.tasks (omega (arith, c.requires.within, c.loop-tasks.invariant.tasks))
    c.advance_all.ensures c.loop-tasks-test.ensures

pub loop-tasks-preserved : goal.loop-tasks-preserved
loop-tasks-preserved g c =
    let at : ℕ → List ℕ = λ k. g.H.Hashes.at k c.loop-tasks.state in
    record {
      tasks = c.advance_all.auto.tasks ∙ c.loop-tasks.invariant.tasks;
      progress = progress_twice _ _ _ _ at (λ k. g.H.Hashes.at k c.absorbed-state-else-batch-gt0.result) _ 1 c.loop-tasks.invariant.tasks c.loop-tasks.invariant.progress c.advance_all.ensures
          (λ k low. c.absorbed-state-else-batch-gt0.ensures k (omega (arith, low, c.requires.lanes.own))
          ∙ ap (λ bytes. hash_behind (at k) bytes 1) (c.as_buffers.ensures.bytes k (omega (arith, low, c.requires.lanes.own, c.requires.lanes.few))));
    }
