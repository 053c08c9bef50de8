use Rattle.par2_arguments.proofs.Names.{◌∙◌, ap, arith, fold, map, subst, sym, take, with_subcommand, App, IsApp, start_app, fold-append, map_more, par2_app, take_all, shape_for, with_command}
use Rattle.par2_arguments.proofs.definition.par2_command.Goals as goal

pub loop-name-init : goal.loop-name-init
loop-name-init c = unfold start_app in grind arith

pub loop-name-preserved : goal.loop-name-preserved
loop-name-preserved c =
    subst (λ (app : App). IsApp c.in_ok-command.command app) (sym (fold-append with_subcommand start_app (map shape_for (take c.loop-name.name-index _)) _) ∙ ap (fold with_subcommand start_app) (sym (map_more shape_for _ c.loop-name.name-index _ c.loop-name-test.true)))
    (with_command _ _ _ _ _ c.in_ok-command.ensures c.loop-name.invariant c.in_ok-subcommand.ensures)

pub returns : goal.returns
returns c = unfold par2_app in
    subst (λ rows. IsApp c.loop-name.command (fold with_subcommand start_app (map shape_for rows)))
    (take_all c.loop-name.name-index _ c.loop-name-test.false) c.loop-name.invariant
