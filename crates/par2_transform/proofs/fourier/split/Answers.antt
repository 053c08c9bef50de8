use Rattle.par2_transform.proofs.Names.{ℕ, suc, ◌+◌, ◌*◌, ◌%◌, ◌^◌, ◌<◌, ◌≡◌, ap, sym, subst, ◌∙◌, arith, mul, zero-product, GivesElements, Grid, EachColumn, OneRun, IsButterfly, column, IsSplit, shifted, run_starts, butterfly_runs, butterfly_at, split_runs, each_so}
use Rattle.par2_transform.proofs.StepLaws.{run_none}
use Rattle.par2_transform.proofs.fourier.split.Goals as goal

-- half of a run, as a shift computes it
abbrev half : ℕ → ℕ
half i = 1 * 2 ^ i % 18446744073709551616

all_split : (i q c : ℕ) (a b : Grid) → i < 16 → c < 65536 → ((k : ℕ) → GivesElements (column a k)) → EachColumn (IsButterfly (mul c) (q * 2 * half i) (q * 2 * half i + half i) (half i)) a b
    → EachColumn (OneRun (q * 2 ^ suc i) (2 ^ suc i) (IsSplit i c)) a b
all_split i q c a b few small fit both = record {
  levels = both.levels;
  words = both.words;
  columns = λ k h.
      let is_half : half i ≡ 2 ^ i = shifted i few in
      let is : q * 2 * half i ≡ q * 2 ^ suc i = ap (λ n. q * 2 * n) is_half ∙ run_starts i q in
      split_runs i c (q * 2 ^ suc i) (column a k) (column b k) (fit k) small
      (butterfly_at (mul c) (q * 2 * half i) (q * 2 ^ suc i) (q * 2 * half i + half i) (q * 2 ^ suc i + 2 ^ i) (half i) (2 ^ i) (column a k) (column b k) is (omega (arith, is, is_half)) is_half (both.columns k h));
}

-- products with 0 add nothing to the lower half
pub returns-then-c-eq0 : goal.returns-then-c-eq0
returns-then-c-eq0 c =
    let n = half c.args.i in
    let low = c.args.q * 2 * n in
    let by = mul c.args.c in
    all_split c.args.i c.args.q c.args.c c.args.rows.now c.add_rows.new.self (omega arith) c.ranges.c.fits c.fit.ensures
    (each_so c.add_rows.ensures
    (λ f g added. butterfly_runs by low (low + n) n f f g (omega arith) (run_none by (low + n) low n f (λ v. subst (λ k. mul k v ≡ 0) (sym c.if-c-eq0.true) (zero-product v))) added))

pub returns-else-c-eq0 : goal.returns-else-c-eq0
returns-else-c-eq0 c =
    all_split c.args.i c.args.q c.args.c c.args.rows.now c.butterfly.new.self (omega arith) c.ranges.c.fits c.fit.ensures (rw c.new.ensures at c.butterfly.ensures)
