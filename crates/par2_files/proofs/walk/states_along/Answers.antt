use Rattle.par2_files.proofs.Names.{arith, common_steps}
use Rattle.par2_files.proofs.walk.states_along.Goals as goal

pub loop-name-init : goal.loop-name-init
loop-name-init c = rw c.in_ok-states.ensures.items (c.start.ensures.states c.args.folder.now.files c.requires.checkpoints)

pub absorbing_before-requires-clause-further : goal.absorbing_before-requires-clause-further
absorbing_before-requires-clause-further c = c.comes_before.ensures.further c.if-comes_before.true

pub loop-name-preserved : goal.loop-name-preserved
loop-name-preserved c = grind (arith, common_steps)

pub returns : goal.returns
returns c = c.states_with.ensures _ c.in_ok-absorbing.ensures
