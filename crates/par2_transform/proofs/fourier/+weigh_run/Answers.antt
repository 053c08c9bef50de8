use Rattle.par2_transform.proofs.Names.{ℕ, suc, ◌+◌, ◌-◌, ◌*◌, ◌%◌, ◌^◌, ◌<◌, ◌≤◌, ◌≡◌, ◌∙◌, ap, sym, subst, arith, point, length, slice_index, ArePowerSums, OneRun, first_half, second_half, both_halves, halves_below, run_in_field, sums_of_first, summed_run, double_power, merged_runs, raised_at, run_at, run_back, run_starts, shifted}
use Rattle.par2_transform.proofs.fourier.+weigh_run.Goals as goal

-- the positions of the halves of a run
places : (i q : ℕ) → 0 < i → (q * 2 ^ i ≡ 2 * q * 2 ^ (i - 1)) × ((2 * q + 1) * 2 ^ (i - 1) ≡ q * 2 ^ i + 2 ^ (i - 1)) × (2 ^ i ≡ 2 ^ (i - 1) + 2 ^ (i - 1))
places i q some =
    let up : suc (i - 1) ≡ i = omega (arith, some) in
    subst (λ n. (q * 2 ^ n ≡ 2 * q * 2 ^ (i - 1)) × ((2 * q + 1) * 2 ^ (i - 1) ≡ q * 2 ^ n + 2 ^ (i - 1)) × (2 ^ n ≡ 2 ^ (i - 1) + 2 ^ (i - 1))) up
    (first_half (i - 1) q, sym (second_half (i - 1) q), double_power (i - 1))

-- the halves lie within the words
halves : (i q n : ℕ) → 0 < i → i ≤ 16 → q * 2 ^ i + 2 ^ i ≤ n → (1 * 2 ^ (i - 1) % 18446744073709551616 ≡ 2 ^ (i - 1)) × (q * 2 * (1 * 2 ^ (i - 1) % 18446744073709551616) + 2 ^ suc (i - 1) ≤ n) × (2 ^ suc (i - 1) ≡ 2 ^ (i - 1) + 2 ^ (i - 1))
halves i q n some level fits =
    let up : suc (i - 1) ≡ i = omega (arith, some) in
    let half = shifted (i - 1) (omega (arith, some, level)) in
    (half, omega (arith, subst (λ m. q * 2 ^ m + 2 ^ m ≤ n) (sym up) fits, ap (λ m. q * 2 * m) half, run_starts (i - 1) q), double_power (i - 1))

pub lower-requires-clause-fits : goal.lower-requires-clause-fits
lower-requires-clause-fits t c = (halves c.args.i c.args.q (length c.args.words.now) c.if-i-gt0.true c.requires.level c.requires.fits).1

pub add_run-requires-clause-from : goal.add_run-requires-clause-from
add_run-requires-clause-from t c = omega (arith, halves c.args.i c.args.q (length c.args.words.now) c.if-i-gt0.true c.requires.level c.requires.fits, c.lower.auto.words)

pub weigh_run-requires : goal.weigh_run-requires
weigh_run-requires t c =
    let size : length c.add_run.new.words ≡ length c.args.words.now = c.add_run.auto.words ∙ c.lower.auto.words in
    let below = halves_below 16 c.args.i c.args.q c.if-i-gt0.true c.requires.level c.requires.run in
    (omega (arith, c.decreases, c.if-i-gt0.true), (omega (arith, c.requires.level), (below, omega (arith, size, places c.args.i c.args.q c.if-i-gt0.true, c.requires.fits))))

pub weigh_run-requires-then-i-gt0 : goal.weigh_run-requires-then-i-gt0
weigh_run-requires-then-i-gt0 t c =
    let size : length c.weigh_run.new.words ≡ length c.args.words.now = c.weigh_run.auto.words ∙ c.add_run.auto.words ∙ c.lower.auto.words in
    let below = halves_below 16 c.args.i c.args.q c.if-i-gt0.true c.requires.level c.requires.run in
    (omega (arith, c.decreases, c.if-i-gt0.true), (omega (arith, c.requires.level), (omega (arith, below), omega (arith, size, places c.args.i c.args.q c.if-i-gt0.true, c.requires.fits))))

pub returns-then-i-gt0-clause-weights : goal.returns-then-i-gt0-clause-weights
returns-then-i-gt0-clause-weights t c =
    let i = c.args.i - 1 in
    let q = c.args.q in
    let up : suc i ≡ c.args.i = omega (arith, c.if-i-gt0.true) in
    let f = slice_index c.args.words.now in
    let shift = 1 * 2 ^ i % 18446744073709551616 in
    let half : shift ≡ 2 ^ i = shifted i (omega arith) in
    let at = q * 2 * shift in
    let start = q * 2 ^ suc i in
    let is : at ≡ start = ap (λ n. q * 2 * n) half ∙ run_starts i q in
    let mid = slice_index c.lower.new.words in
    let g = slice_index c.add_run.new.words in
    let k = slice_index c.weigh_run.new.words in
    let h = slice_index c.weigh_run-then-i-gt0.new.words in
    subst (λ n. OneRun (q * 2 ^ n) (2 ^ n) (ArePowerSums n q) h f) up
    (summed_run i q h g f c.fit_words-then-i-gt0.ensures (run_in_field 16 c.args.i q (omega arith) c.if-i-gt0.true c.requires.level c.requires.run)
    (both_halves i q (ArePowerSums i (2 * q)) (ArePowerSums i (2 * q + 1)) (sums_of_first i (2 * q)) (sums_of_first i (2 * q + 1)) h k g c.weigh_run-then-i-gt0.ensures.weights c.weigh_run.ensures.weights)
    (merged_runs i (point (2 * q)) start g mid f
    (run_back (start + 2 ^ i) start (2 ^ i) mid g (omega arith) (run_at (at + shift) (start + 2 ^ i) at start shift (2 ^ i) mid g (omega arith) is half c.add_run.ensures))
    (raised_at i c.point.result (point (2 * q)) at start mid f c.point.ensures is c.lower.ensures)))
