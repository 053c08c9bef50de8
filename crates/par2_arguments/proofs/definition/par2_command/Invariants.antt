use Rattle.par2_arguments.proofs.Names.{fold, map, take, with_subcommand, IsApp, start_app, shape_for}
use Rattle.par2_arguments.proofs.definition.par2_command.Given as goal

abbrev pub invariant-loop-name : goal.invariant-loop-name
invariant-loop-name l = IsApp l.command (fold with_subcommand start_app (map shape_for (take l.name-index l.name-items)))
