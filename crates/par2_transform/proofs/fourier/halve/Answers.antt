use Rattle.par2_transform.proofs.Names.{suc, ◌*◌, ◌%◌, ◌^◌, ◌≡◌, ◌≤◌, ◌<◌, ap, subst, ◌∙◌, arith, EachColumn, OneRun, column, IsHalved, shifted, run_starts, halved_runs, short_runs, each_of, each_unchanged}
use Rattle.par2_transform.proofs.fourier.halve.Goals as goal

pub returns-then-count-half : goal.returns-then-count-half
returns-then-count-half c =
    let i = c.args.i in
    let q = c.args.q in
    let n = c.args.count in
    let half : 1 * 2 ^ i % 18446744073709551616 ≡ 2 ^ i = shifted i (omega arith) in
    let many : 2 ^ i < n = omega (arith, half, c.if-count-half.true) in
    let start = q * 2 * (1 * 2 ^ i % 18446744073709551616) in
    let is : start ≡ q * 2 ^ suc i = ap (λ k. q * 2 * k) half ∙ run_starts i q in
    let a = c.args.rows.now in
    let b = c.spread_above.new.rows in
    let d = c.spread_below.new.rows in
    subst (λ k. EachColumn (OneRun k (2 ^ suc i) (IsHalved n i)) a d) is
    (each_of c.spread_above.ensures c.spread_below.ensures
    (λ k first second. halved_runs n i start (column a k) (column b k) (column d k) many (c.fit.ensures k) first second))

pub returns-else-count-half : goal.returns-else-count-half
returns-else-count-half c =
    let i = c.args.i in
    let half : 1 * 2 ^ i % 18446744073709551616 ≡ 2 ^ i = shifted i (omega arith) in
    let few : c.args.count ≤ 2 ^ i = omega (arith, half, c.if-count-half.false) in
    let a = c.args.rows.now in
    each_unchanged (OneRun (c.args.q * 2 ^ suc i) (2 ^ suc i) (IsHalved c.args.count i)) a (λ k. short_runs c.args.count i (c.args.q * 2 ^ suc i) (column a k) few)
