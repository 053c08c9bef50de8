use Rattle.par2_matrix.proofs.Names.{[], ap, arith, bit_xor, drop, get_or, length, plus, root_end, root_step, sym, times, ◌++◌, ◌+◌, ◌∙◌, ◌∷◌, ◌≤◌}
use Rattle.par2_matrix.proofs.locators.times_root.Goals as goal

pub loop-t-preserved : goal.loop-t-preserved
loop-t-preserved c =
    let p = c.args.p.now in
    let t = c.loop-t.t in
    let rest = plus (times c.args.c (drop (t + 1) p)) (get_or p t 0 ∷ drop (t + 1) p) in
    ap (λ xs. xs ++ rest) c.in_ok-push.ensures.items
    ∙ ap (λ m. (c.loop-t.product.items ++ bit_xor m c.loop-t.before ∷ []) ++ rest) c.mul.ensures
    ∙ sym (root_step c.args.c c.loop-t.before t p c.loop-t.product.items c.loop-t-test.true) ∙ c.loop-t.invariant

pub returns : goal.returns
returns c =
    let all : length c.args.p.now ≤ c.loop-t.t = omega (arith, c.loop-t-test.false) in
    c.in_ok-push-2.ensures.items ∙ sym (root_end c.args.c c.loop-t.before c.loop-t.t c.args.p.now c.loop-t.product.items all) ∙ c.loop-t.invariant
