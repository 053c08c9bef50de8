use Rattle.par2_tool.proofs.Common.{◌≡◌, ◌++◌, ◌∙◌, ℕ, Bool, List, Option, Result, ap, subst, sym, err_from_is_err_and, length-map, map, Outcome, outcome_of, output_of, Printer, PrinterWrote, part_behind, wrote_less, wrote_then, seen, step_line, step_view, shown_lines_cut, shown_lines_next, take_all}
use Rattle.par2_spec.specs.Prelude.{Done, Step, done_lines, note_line}
use Rattle.par2_tool.proofs.printing.write_outcome.Goals as goal

-- the lines of an accepted command other than a verify
shown : {W T E : Type 0} (held : W → Option (List ℕ)) (a b : Printer W) (dropped : Bool) (o : Outcome) (steps : List Step) (r : Result T E) → o ≡ Done steps
    → PrinterWrote held a b (note_line dropped ++ done_lines steps) r → PrinterWrote held a b (output_of dropped o) r
unfolding output_of
shown held a b dropped o steps r is wrote = subst (λ x. PrinterWrote held a b (output_of dropped x) r) (sym is) wrote

pub returns-in_err-write_note : goal.returns-in_err-write_note
returns-in_err-write_note g c =
    let p = err_from_is_err_and c.from_residual.result c.from_residual.ensures.1 in
    let held = g.W.Write.contents in
    shown held c.args.out.now c.write_note.new.out c.args.dropped _ (map step_view c.as_slice-steps.result.now) c.from_residual.result (ap outcome_of c.in-Done.is ∙ ap Done (sym c.as_slice-steps.ensures))
    (rw p.1 (wrote_less (seen held) c.args.out.now c.write_note.new.out _ _ c.in_err-write_note.ensures))

pub returns-in_err-write_step : goal.returns-in_err-write_step
returns-in_err-write_step g c =
    let p = err_from_is_err_and c.from_residual-in_err-write_step.result c.from_residual-in_err-write_step.ensures.1 in
    let held = seen g.W.Write.contents in
    let noted = c.write_note.new.out in
    let after = c.write_step.new.out in
    shown g.W.Write.contents c.args.out.now after c.args.dropped _ (map step_view c.as_slice-steps.result.now) c.from_residual-in_err-write_step.result (ap outcome_of c.in-Done.is ∙ ap Done (sym c.as_slice-steps.ensures))
    (rw p.1 (part_behind held c.args.out.now noted after _ _ c.in_ok-write_note.ensures (wrote_less held noted after _ _
    (shown_lines_cut held step_line step_view noted c.loop-step.out after c.as_slice-steps.result.now c.loop-step.step-index _ _ c.loop-step-test.true
    (c.printed.ensures ∙ ap step_view c.step-item.is) c.loop-step.invariant c.in_err-write_step.ensures))))

pub loop-step-preserved : goal.loop-step-preserved
loop-step-preserved g c =
    shown_lines_next (seen g.W.Write.contents) step_line step_view c.write_note.new.out c.loop-step.out c.write_step.new.out c.as_slice-steps.result.now c.loop-step.step-index _ _ c.loop-step-test.true
    (c.printed.ensures ∙ ap step_view c.step-item.is) c.loop-step.invariant c.in_ok-write_step.ensures

pub returns : goal.returns
returns g c =
    let held = seen g.W.Write.contents in
    let noted = c.write_note.new.out in
    let after = c.write_done.new.out in
    let stepped = rw (take_all c.loop-step.step-index c.as_slice-steps.result.now c.loop-step-test.false) at c.loop-step.invariant in
    shown g.W.Write.contents c.args.out.now after c.args.dropped _ (map step_view c.as_slice-steps.result.now) c.write_done.result (ap outcome_of c.in-Done.is ∙ ap Done (sym c.as_slice-steps.ensures))
    (wrote_then held c.args.out.now noted after _ _ c.write_done.result c.in_ok-write_note.ensures
    (wrote_then held noted c.loop-step.out after _ _ c.write_done.result stepped (rw (length-map c.as_slice-steps.result.now step_view) c.write_done.ensures)))
