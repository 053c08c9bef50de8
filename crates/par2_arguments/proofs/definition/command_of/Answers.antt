use Rattle.par2_arguments.proofs.Names.{◌∙◌, ap, fold, map, new_app, subst, sym, take, App, IsApp, rule_for, with_rule, fold-append, map_more, with_argument}

pub loop-argument-preserved : Rattle.par2_arguments.proofs.definition.command_of.Goals.loop-argument-preserved
loop-argument-preserved c =
    let start = new_app c.args.name.now in
    let more = map_more rule_for c.args.given.now c.loop-argument.argument-index _ c.loop-argument-test.true in
    subst (λ (app : App). IsApp c.in_ok-command.command app) (sym (fold-append with_rule start (map rule_for (take c.loop-argument.argument-index c.args.given.now)) _) ∙ ap (fold with_rule start) (sym more))
    (with_argument _ _ _ _ _ c.in_ok-command.ensures c.loop-argument.invariant c.arg_of.ensures.rule c.arg_of.ensures.local)
