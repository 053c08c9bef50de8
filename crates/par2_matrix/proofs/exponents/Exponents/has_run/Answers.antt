use Rattle.par2_matrix.proofs.Names.{AreClose, arith, close_run, drop, false≢true, get_or, length, no_run, one_less, part_is, refl, rules, subst, sym, take, ◌+◌, ◌-◌, ◌∙◌, ◌≤◌}
use Rattle.par2_matrix.proofs.exponents.Exponents.has_run.Goals as goal

pub returns-then-are_close : goal.returns-then-are_close
returns-then-are_close c =
    let xs = c.args.self.now.numbers.now in
    let n = c.args.count in
    let end = c.loop-end.end in
    let within : n ≤ end = c.loop-end.auto.end in
    let close : AreClose n (take n (drop (end - n) xs)) = subst (λ m. AreClose n (take m (drop (end - n) xs))) (part_is end n within) (c.are_close.ensures.0 c.if-are_close.true) in
    ((λ _. (get_or xs (end - n) 0, close_run xs (end - n) n c.args.self.now.rise (omega (arith, within, c.loop-end-test.true)) close)), (λ _. refl))

pub loop-end-preserved : goal.loop-end-preserved
loop-end-preserved c =
    let xs = c.args.self.now.numbers.now in
    let n = c.args.count in
    let end = c.loop-end.end in
    one_less xs n end c.loop-end.invariant (λ close.
    false≢true (sym c.if-are_close.false ∙ c.are_close.ensures.1 (subst (λ m. AreClose n (take m (drop (end - n) xs))) (sym (part_is end n c.loop-end.auto.end)) close)))

pub returns : goal.returns
returns c = no_run c.args.self.now.numbers.now c.args.count c.loop-end.end c.args.self.now.rise c.loop-end.invariant (search rules)

pub returns-else-are_close : goal.returns-else-are_close
returns-else-are_close c =
    let xs = c.args.self.now.numbers.now in
    let n = c.args.count in
    let end = c.loop-end.end in
    let last : length xs ≤ end = search rules in
    no_run xs n (end + 1) c.args.self.now.rise (one_less xs n end c.loop-end.invariant (λ close.
    false≢true (sym c.if-are_close.false ∙ c.are_close.ensures.1 (subst (λ m. AreClose n (take m (drop (end - n) xs))) (sym (part_is end n c.loop-end.auto.end)) close))))
    (omega (arith, last))
