use Rattle.par2_transform.proofs.Names.{ℕ, suc, ◌+◌, ◌-◌, ◌*◌, ◌^◌, ◌≡◌, ◌∙◌, subst, arith, AreListedValues, EachColumn, Grid, OneRun, column, from, listed_by, false≢true, IsSplit, each_of, each_unchanged, BothHalves, both_halves, evaluated_run, listed_of_first, lower_half, run_in_field, run_kept, upper_half, unchanged_run, value_of_one}
use Rattle.par2_transform.proofs.fourier.+evaluate_run.Goals.{else-i-gt0-via-then-i-gt0+else-has_wanted, else-i-gt0-via-else-i-gt0}
use Rattle.par2_transform.proofs.fourier.+evaluate_run.Goals as goal

pub returns-then-has_wanted : goal.returns-then-has_wanted
returns-then-has_wanted t c =
    let i = c.args.i - 1 in
    let q = c.args.q in
    let n = c.args.number in
    let next = listed_by c.args.next in
    let a = c.args.rows.now in
    let b = c.split.new.rows in
    let d = c.evaluate_run.new.rows in
    let e = c.evaluate_run-then-has_wanted.new.rows in
    let up : suc i ≡ c.args.i = omega (arith, c.if-i-gt0.true) in
    subst (λ m. EachColumn (OneRun (q * 2 ^ m) (2 ^ m) (AreListedValues next m n)) a e) up
    (each_of (subst (λ p. EachColumn (OneRun (q * 2 ^ suc i) (2 ^ suc i) (IsSplit i p)) a b) c.point.ensures c.split.ensures)
    (each_of {both = BothHalves i q (AreListedValues next i (2 * n)) (AreListedValues next i (2 * n + 1))} c.evaluate_run.ensures c.evaluate_run-then-has_wanted.ensures
    (λ k one two. both_halves i q (AreListedValues next i (2 * n)) (AreListedValues next i (2 * n + 1)) (listed_of_first next i (2 * n)) (listed_of_first next i (2 * n + 1)) (column b k) (column d k) (column e k) one two))
    (λ k one two. evaluated_run next i q n (column a k) (column b k) (column e k) (c.fit.ensures k)
    (run_in_field 16 c.args.i n (omega arith) c.if-i-gt0.true c.requires.coset.level c.requires.coset.run) one two))

pub returns-else-i-gt0 : goal.returns-else-i-gt0
returns-else-i-gt0 t c = elim c.else-i-gt0.branch [
  | else-i-gt0-via-then-i-gt0+else-has_wanted w ↦
      each_unchanged (OneRun (q * 2 ^ c.args.i) (2 ^ c.args.i) (AreListedValues next c.args.i n)) a
      (λ k. unchanged_run (q * 2 ^ c.args.i) (2 ^ c.args.i) (AreListedValues next c.args.i n) (column a k) (λ u low listed. absurd (false≢true (w.if-has_wanted.ensures u low listed))))
  | else-i-gt0-via-else-i-gt0 w ↦
      let none : 0 ≡ c.args.i = omega (arith, w.if-i-gt0.false) in
      subst (λ m. EachColumn (OneRun (q * 2 ^ m) (2 ^ m) (AreListedValues next m n)) a a) none
      (each_unchanged (OneRun (q * 2 ^ 0) (2 ^ 0) (AreListedValues next 0 n)) a (λ k. unchanged_run (q * 2 ^ 0) (2 ^ 0) (AreListedValues next 0 n) (column a k) (value_of_one next n (from (q * 2 ^ 0) (column a k)))))
]
  where
    q : ℕ
    q = c.args.q

    n : ℕ
    n = c.args.number

    next : ℕ → ℕ
    next = listed_by c.args.next

    a : Grid
    a = c.args.rows.now

pub evaluate_run-requires : goal.evaluate_run-requires
evaluate_run-requires t c =
    let run = run_kept c.split.ensures.levels (lower_half c.args.rows.now.levels c.args.i c.args.q c.if-i-gt0.true c.requires.run) in
    (omega (arith, c.decreases, c.if-i-gt0.true), (run, (lower_half 16 c.args.i c.args.number c.if-i-gt0.true c.requires.coset, c.requires.list)))

pub evaluate_run-requires-then-has_wanted : goal.evaluate_run-requires-then-has_wanted
evaluate_run-requires-then-has_wanted t c =
    let run = run_kept (c.evaluate_run.ensures.levels ∙ c.split.ensures.levels) (upper_half c.args.rows.now.levels c.args.i c.args.q c.if-i-gt0.true c.requires.run) in
    (omega (arith, c.decreases, c.if-i-gt0.true), (run, (upper_half 16 c.args.i c.args.number c.if-i-gt0.true c.requires.coset, c.requires.list)))
