use Rattle.par2_transform.proofs.Names.{suc, ◌+◌, ◌-◌, ◌*◌, ◌%◌, ◌^◌, ◌≡◌, ◌∙◌, ap, subst, arith, EachColumn, OneRun, column, from, IsCombination, each_of, each_unchanged, BothHalves, both_halves, combination_of_first, combination_of_one, combined_run, lower_half, run_kept, upper_half, unchanged_run, shifted}
use Rattle.par2_transform.proofs.fourier.+combine_run.Goals as goal

pub returns-then-i-gt0 : goal.returns-then-i-gt0
returns-then-i-gt0 t c =
    let i = c.args.i - 1 in
    let q = c.args.q in
    let a = c.args.rows.now in
    let up : suc i ≡ c.args.i = omega (arith, c.if-i-gt0.true) in
    let n = c.args.count in
    let half : 1 * 2 ^ i % 18446744073709551616 ≡ 2 ^ i = shifted i (omega (arith, c.requires.few, c.requires.level)) in
    let left : c.saturating_sub.result ≡ n - 2 ^ i = c.saturating_sub.ensures ∙ ap (λ m. n - m) half in
    let b = c.halve.new.rows in
    let d = c.combine_run.new.rows in
    let e = c.combine_run-then-i-gt0.new.rows in
    let second = subst (λ m. EachColumn (OneRun ((2 * q + 1) * 2 ^ i) (2 ^ i) (IsCombination m i)) d e) left c.combine_run-then-i-gt0.ensures in
    subst (λ k. EachColumn (OneRun (q * 2 ^ k) (2 ^ k) (IsCombination n k)) a e) up
    (each_of c.halve.ensures
    (each_of {both = BothHalves i q (IsCombination n i) (IsCombination (n - 2 ^ i) i)} c.combine_run.ensures second
    (λ k one two. both_halves i q (IsCombination n i) (IsCombination (n - 2 ^ i) i) (combination_of_first n i) (combination_of_first (n - 2 ^ i) i) (column b k) (column d k) (column e k) one two))
    (λ k one two. combined_run n i q (column a k) (column b k) (column e k) one two))

pub returns-else-i-gt0 : goal.returns-else-i-gt0
returns-else-i-gt0 t c =
    let none : 0 ≡ c.args.i = omega (arith, c.if-i-gt0.false) in
    let q = c.args.q in
    let a = c.args.rows.now in
    let n = c.args.count in
    subst (λ k. EachColumn (OneRun (q * 2 ^ k) (2 ^ k) (IsCombination n k)) a a) none
    (each_unchanged (OneRun (q * 2 ^ 0) (2 ^ 0) (IsCombination n 0)) a (λ k. unchanged_run (q * 2 ^ 0) (2 ^ 0) (IsCombination n 0) (column a k) (combination_of_one n (from (q * 2 ^ 0) (column a k)) (c.fit.ensures k _))))

pub combine_run-requires : goal.combine_run-requires
combine_run-requires t c =
    (omega (arith, c.decreases, c.if-i-gt0.true), run_kept c.halve.ensures.levels (lower_half c.args.rows.now.levels c.args.i c.args.q c.if-i-gt0.true c.requires))

pub combine_run-requires-then-i-gt0 : goal.combine_run-requires-then-i-gt0
combine_run-requires-then-i-gt0 t c =
    (omega (arith, c.decreases, c.if-i-gt0.true), run_kept (c.combine_run.ensures.levels ∙ c.halve.ensures.levels) (upper_half c.args.rows.now.levels c.args.i c.args.q c.if-i-gt0.true c.requires))
