use Rattle.par2_files.proofs.Names.{ap, arith, map, ◌∙◌, take_all, md5, absorbed_at, as_many, digested_more}
use Rattle.par2_files.proofs.walk.digests_of.Goals as goal

pub loop-state-preserved : goal.loop-state-preserved
loop-state-preserved c = λ buffers held.
    let many = as_many c.args.states.now buffers held in
    digested_more c.loop-state.digests.items _ c.digest.result buffers c.loop-state.state-index (omega (arith, many, c.loop-state-test.true)) c.in_ok-push.ensures.items
    (c.loop-state.invariant buffers held) (c.digest.ensures _ (absorbed_at c.args.states.now buffers c.loop-state.state-index _ held c.loop-state-test.true))

pub returns : goal.returns
returns c = λ buffers held.
    let many = as_many c.args.states.now buffers held in
    c.loop-state.invariant buffers held ∙ ap (map md5) (take_all c.loop-state.state-index buffers (omega (arith, many, c.loop-state-test.false)))
