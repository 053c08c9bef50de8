use Rattle.par2_matrix.proofs.Names.{ap, arith, drop, get_or, rules, sym, times_root, with_roots, with_roots_at_end, with_roots_from, ◌+◌, ◌-◌, ◌<◌, ◌∙◌, ◌≡◌}
use Rattle.par2_matrix.proofs.locators.with_roots.Goals as goal

pub loop-i-init : goal.loop-i-init
loop-i-init c = c.in_ok-p.ensures.items_if_clones_equal (λ y h. search rules) ∙ sym (with_roots_at_end c.args.points.now)

pub loop-i-preserved : goal.loop-i-preserved
loop-i-preserved c =
    let points = c.args.points.now in
    let i = c.loop-i.i in
    let low : 0 < i = search rules in
    let next : i - 1 + 1 ≡ i = omega (arith, low) in
    c.in_ok-p-2.ensures ∙ ap (times_root (get_or points (i - 1) 0)) (c.deref.ensures.value ∙ c.loop-i.invariant ∙ ap (λ n. with_roots (drop n points)) (sym next))
    ∙ sym (with_roots_from points (i - 1) (let within = c.loop-i.auto.i in omega (arith, low, within)))
