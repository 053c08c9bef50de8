use Rattle.par2_inputs.proofs.Names.{◌≡◌, ◌∙◌, ◌||◌, sym, ap, false, rules, tests, list_any, has, volume_names, Volume, YieldsList-from_slice, any_from_yields_List, any_named}
use Rattle.par2_inputs.proofs.inputs.is_there.Goals as goal

pub returns-else-is_some : goal.returns-else-is_some
returns-else-is_some c =
    let there = has c.args.folder.now.files in
    let gone : there c.args.base.now ≡ false = sym c.get.ensures.variant ∙ sym c.is_some.ensures ∙ c.if-is_some.false in
    any_from_yields_List (λ (volume : Volume). there volume.name) _ _ c.any.result c.any.ensures.ran (YieldsList-from_slice c.args.volumes.now c.iter-volumes.ensures.rest) (λ x b q k. search (rules, tests))
    ∙ sym (any_named there c.args.volumes.now) ∙ ap (λ b. b || list_any there (volume_names c.args.volumes.now)) (sym gone)
