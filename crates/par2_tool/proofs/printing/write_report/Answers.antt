use Rattle.par2_tool.proofs.Names.{◌++◌, ◌∙◌, ap, List, ℕ, refl, subst, codes, flat_map, err_from_is_err_and, Report, verdict_of, line, target_line, verdict_words, report_lines, report_view, PrinterWrote, seen, part_behind, shown_lines_cut, shown_lines_next, take_all, target_report_of, took_both, wrote_less, wrote_then, Verdict}
use Rattle.par2_tool.proofs.printing.write_report.Goals as goal

-- the lines between the first and the last, and the last
targets : Report → List ℕ
targets r = flat_map target_line r.targets

verdict_line : Report → Verdict → List ℕ
verdict_line r v = line (codes "result: " ++ verdict_words r v)

pub returns-in_err-write_set : goal.returns-in_err-write_set
returns-in_err-write_set g c = unfold report_lines targets verdict_line in
    let p = err_from_is_err_and c.from_residual.result c.from_residual.ensures.1 in
    let r = report_view c.args.report.now in
    let held = seen g.W.Write.contents in
    let a = c.args.out.now in
    let b = c.write_set.new.out in
    rw p.1 (wrote_less held a b _ (verdict_line r (verdict_of r)) (wrote_less held a b _ (targets r) c.in_err-write_set.ensures))

pub returns-in_err-write_target : goal.returns-in_err-write_target
returns-in_err-write_target g c = unfold report_lines targets verdict_line in
    let p = err_from_is_err_and c.from_residual-in_err-write_target.result c.from_residual-in_err-write_target.ensures.1 in
    let r = report_view c.args.report.now in
    let held = seen g.W.Write.contents in
    let a = c.args.out.now in
    let b = c.write_set.new.out in
    let after = c.write_target.new.out in
    let cut = shown_lines_cut held target_line target_report_of b c.loop-target.out after c.deref-target-items.result.now c.loop-target.target-index _ _ c.loop-target-test.true
    (c.printed_target.ensures ∙ ap target_report_of c.target-item.is) c.loop-target.invariant c.in_err-write_target.ensures in
    rw p.1 (wrote_less held a after _ (verdict_line r (verdict_of r)) (part_behind held a b after _ (targets r) c.in_ok-write_set.ensures (rw c.deref-target-items.ensures.value at cut)))

pub loop-target-preserved : goal.loop-target-preserved
loop-target-preserved g c =
    shown_lines_next (seen g.W.Write.contents) target_line target_report_of c.write_set.new.out c.loop-target.out c.write_target.new.out c.deref-target-items.result.now c.loop-target.target-index _ _ c.loop-target-test.true
    (c.printed_target.ensures ∙ ap target_report_of c.target-item.is) c.loop-target.invariant c.in_ok-write_target.ensures

pub returns : goal.returns
returns g c = unfold report_lines targets verdict_line in
    let r = report_view c.args.report.now in
    let held = seen g.W.Write.contents in
    let before = c.loop-target.out in
    let after = c.write_verdict.new.out in
    let all = rw (take_all c.loop-target.target-index c.deref-target-items.result.now c.loop-target-test.false) at c.loop-target.invariant in
    let last = subst (λ v. PrinterWrote g.W.Write.contents before after (verdict_line r v) c.write_verdict.result) c.verdict.ensures.answer (c.write_verdict.ensures r refl refl) in
    wrote_then held c.args.out.now before after _ (verdict_line r (verdict_of r)) c.write_verdict.result
    (took_both held c.args.out.now c.write_set.new.out before _ (targets r) c.in_ok-write_set.ensures (rw c.deref-target-items.ensures.value at all)) last
