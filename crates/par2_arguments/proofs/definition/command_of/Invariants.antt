use Rattle.par2_arguments.proofs.Common.{fold, map, new_app, take, with_rule, IsApp, rule_for}
use Rattle.par2_arguments.proofs.definition.command_of.Given as goal

abbrev pub invariant-loop-argument : goal.invariant-loop-argument
invariant-loop-argument l = IsApp l.command (fold with_rule (new_app l.name) (map rule_for (take l.argument-index l.given)))
