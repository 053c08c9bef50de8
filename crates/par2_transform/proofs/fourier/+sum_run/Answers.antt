use Rattle.par2_transform.proofs.Names.{suc, ◌+◌, ◌-◌, ◌*◌, ◌^◌, ◌≡◌, subst, arith, ArePowerSums, EachColumn, OneRun, column, each_of, BothHalves, both_halves, lower_half, run_in_field, run_kept, upper_half, summed_run, sums_of_first}
use Rattle.par2_transform.proofs.fourier.+sum_run.Goals as goal

pub returns-then-i-gt0 : goal.returns-then-i-gt0
returns-then-i-gt0 t c =
    let i = c.args.i - 1 in
    let q = c.args.q in
    let a = c.args.rows.now in
    let up : suc i ≡ c.args.i = omega (arith, c.if-i-gt0.true) in
    let fits = run_in_field a.levels c.args.i q c.requires.few c.if-i-gt0.true c.requires.level c.requires.run in
    subst (λ n. EachColumn (OneRun (q * 2 ^ n) (2 ^ n) (ArePowerSums n q)) a c.merge.new.rows) up
    (each_of (each_of {both = BothHalves i q (ArePowerSums i (2 * q)) (ArePowerSums i (2 * q + 1))} c.sum_run.ensures c.sum_run-then-i-gt0.ensures
    (λ d one two. both_halves i q (ArePowerSums i (2 * q)) (ArePowerSums i (2 * q + 1)) (sums_of_first i (2 * q)) (sums_of_first i (2 * q + 1)) (column a d) (column c.sum_run.new.rows d) (column c.sum_run-then-i-gt0.new.rows d) one two))
    c.merge.ensures
    (λ d one two. summed_run i q (column a d) (column c.sum_run-then-i-gt0.new.rows d) (column c.merge.new.rows d) (c.fit.ensures d) fits one two))

pub sum_run-requires : goal.sum_run-requires
sum_run-requires t c = (omega (arith, c.decreases, c.if-i-gt0.true), lower_half c.args.rows.now.levels c.args.i c.args.q c.if-i-gt0.true c.requires)

pub sum_run-requires-then-i-gt0 : goal.sum_run-requires-then-i-gt0
sum_run-requires-then-i-gt0 t c =
    (omega (arith, c.decreases, c.if-i-gt0.true), run_kept c.sum_run.ensures.levels (upper_half c.args.rows.now.levels c.args.i c.args.q c.if-i-gt0.true c.requires))
