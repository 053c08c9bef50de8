use Rattle.par2_solve.proofs.Names.{IfOk-weaker, adds_same, ap, arith, byte_lists, get_or, length, lists_of, recovered, rules, sym, ◌+◌, ◌∙◌, ◌≡◌}
use Rattle.par2_solve.proofs.additions.add_group.Goals as goal

pub add_recovery_slices_at-requires-clause-exponents : goal.add_recovery_slices_at-requires-clause-exponents
add_recovery_slices_at-requires-clause-exponents c =
    let all : c.run_end.result ≡ length c.args.targets.now.exponents.now = search rules in
    omega (arith, all, c.run_end.ensures.fits, c.args.targets.now.count)

pub returns-then-run_end-count : goal.returns-then-run_end-count
returns-then-run_end-count c =
    let es = c.args.targets.now.exponents.now in
    let slices = byte_lists c.args.transform.now.slices.now in
    let all : c.run_end.result ≡ length es = search rules in
    IfOk-weaker c.add_recovery_slices_at.result _ _ (λ _ added.
    adds_same c.args.targets.now.outputs.places.now c.args.targets.now.outputs.words (λ t p. recovered slices (get_or es 0 0 + t) p) (λ t p. recovered slices (get_or es t 0) p) (lists_of c.args.buffers.now) (lists_of c.add_recovery_slices_at.new.buffers) added
    (λ t p low _.
    let here : 0 + t ≡ t = omega arith in
    ap (λ e. recovered slices e p) (sym (ap (λ i. get_or es i 0) (sym here) ∙ c.run_end.ensures.run t (omega (arith, all, low, c.args.targets.now.count))))))
    c.add_recovery_slices_at.ensures
