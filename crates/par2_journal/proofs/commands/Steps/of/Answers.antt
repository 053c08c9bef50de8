use Rattle.par2_journal.proofs.Names.{◌≡◌, map, sym, subst, ◌∙◌, rules, IfOk, step_of, change_of, step_view, YieldsList-from_map_by, YieldsList-from_slice, map_from_collect, map-map}
use Rattle.par2_journal.proofs.commands.Steps.of.Goals as goal

pub returns : goal.returns
returns c =
    let changes = c.args.changes.now in
    let collected : IfOk c.collect.result (λ w. map step_view w.items ≡ map (λ change. step_of (change_of change)) changes) =
    map_from_collect _ c.collect.ensures.ran
    (YieldsList-from_map_by _ step_view (λ change. step_of (change_of change)) (YieldsList-from_slice changes cc) c.map.ensures.closure (λ x r q k. search rules)) in
    subst (λ r. IfOk r (λ w. map step_view w.items ≡ map (λ change. step_of (change_of change)) changes)) c.in_ok-items.was collected ∙ sym (map-map step_of change_of changes)
