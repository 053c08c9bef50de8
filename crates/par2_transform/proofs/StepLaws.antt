-- One column of values: through the loops of a level, divided, and combined.
use Rattle.par2_transform.proofs.Common.{ℕ, suc, ◌+◌, ◌-◌, ◌*◌, ◌%◌, ◌^◌, ◌<◌, ◌≤◌, ◌≡◌, ◌≢◌, inl, inr, ◌⊎◌, AreTwoRuns, IsPair, IsRun, refl, sym, ap, ap₂, ◌∙◌, subst, arith, bit_xor, pow-suc, add_assoc, mul_assoc, add-mul, one-mul, mul-zero, List, length, get_or, set, bit_at, xor_zero_r, xor_assoc, pow-le-pow_right, cases_eq, cases_lt, get_or-set_same, get_or-set_other, pow-add, xor_lt, mul, GivesElements, field_sum, bit_times_xor, field_sum_same, field_sum_none, field_sum_xor, xor_off, within, powers_in, sum_ahead, IsMerged, from, SameValuesOutside, OneRun, RunAddedBy, RunAdded, IsButterfly, AddsToRun, AheadAdded, IsRaised, xor_comm, pow, power-lt, power-add, product_comm, product_assoc, product_linear_left, field_sum_scaled, vanishing, value, AreZeroFrom, product-zero, zero-product, spread_beyond, spread_within, IsSpreadAbove, IsSpreadBelow, zero, xor_self, xor_zero_l, product-lt, product_linear_right, IsHalved, IsSplit, combined, xor_middle}
use Rattle.std.proofs.Common.{mul-le-mul_right}
use Rattle.par2_transform.proofs.Additions.{within-in, within-below, within-above, within_joined, within_same}
use Rattle.par2_transform.proofs.Subspaces.{field_sum_bit_set, field_sum_bit_unset, leading_power, lower_powers, field_sum_join, field_sum_linear, bit_product, vanishing-lt}

pub power_below : (j i : ℕ) → j < i → 2 ^ j + 2 ^ j ≤ 2 ^ i
power_below j i h =
    let more : 2 ^ suc j ≤ 2 ^ i = pow-le-pow_right (let two : 0 < 2 = omega arith in two) h in
    let double : 2 ^ suc j ≡ 2 ^ j * 2 = pow-suc 2 j in
    omega arith

-- a power of 2, as a shift computes it
pub shifted : (i : ℕ) → i < 16 → 1 * 2 ^ i % 18446744073709551616 ≡ 2 ^ i
shifted i h =
    let under : 2 ^ i + 2 ^ i ≤ 2 ^ 16 = power_below i 16 h in
    omega arith

pub double_power : (i : ℕ) → 2 ^ suc i ≡ 2 ^ i + 2 ^ i
double_power i = let double : 2 ^ suc i ≡ 2 ^ i * 2 = pow-suc 2 i in omega arith

-- a half of a run and a lower power, as shifts compute them
pub shifts : (i j : ℕ) → i < 16 → j < i
    → (1 * 2 ^ i % 18446744073709551616 ≡ 2 ^ i) × (1 * 2 ^ j % 18446744073709551616 ≡ 2 ^ j) × (2 ^ j + 2 ^ j ≤ 2 ^ i) × (2 ^ suc i ≡ 2 ^ i + 2 ^ i)
shifts i j few low = (shifted i few, shifted j (omega arith), power_below j i low, double_power i)

-- the first value of a pair of runs
pub run_starts : (i q : ℕ) → q * 2 * 2 ^ i ≡ q * 2 ^ suc i
run_starts i q = mul_assoc q 2 (2 ^ i) ∙ ap (λ n. q * n) (let double : 2 ^ suc i ≡ 2 ^ i + 2 ^ i = double_power i in let twice : 2 * 2 ^ i ≡ 2 ^ suc i = omega arith in twice)

-- a run lies within 2 ^ k
pub run_fits : (k i q : ℕ) → i ≤ k → q < 2 ^ (k - i) → q * 2 ^ i + 2 ^ i ≤ 2 ^ k
run_fits k i q h l =
    let whole : 2 ^ (k - i) * 2 ^ i ≡ 2 ^ k = sym (pow-add 2 (k - i) i) ∙ ap (λ n. 2 ^ n) (let e : k - i + i ≡ k = omega arith in e) in
    let fits : suc q * 2 ^ i ≤ 2 ^ (k - i) * 2 ^ i = mul-le-mul_right (2 ^ i) (let s : suc q ≤ 2 ^ (k - i) = omega arith in s) in
    let next : suc q * 2 ^ i ≡ q * 2 ^ i + 2 ^ i = ap (λ v. v * 2 ^ i) (let s : suc q ≡ q + 1 = omega arith in s) ∙ add-mul q 1 (2 ^ i) ∙ ap (λ v. q * 2 ^ i + v) (one-mul (2 ^ i)) in
    omega arith

-- the positions of a pair of runs, as the code computes them
pub pair_places : (k i q : ℕ) → i < 16 → i < k → q < 2 ^ (k - suc i)
    → (1 * 2 ^ i % 18446744073709551616 ≡ 2 ^ i) × (q * 2 * (1 * 2 ^ i % 18446744073709551616) ≡ q * 2 ^ suc i) × (2 ^ suc i ≡ 2 ^ i + 2 ^ i) × (q * 2 ^ suc i + 2 ^ suc i ≤ 2 ^ k)
pair_places k i q few level pair =
    let half : 1 * 2 ^ i % 18446744073709551616 ≡ 2 ^ i = shifted i few in
    (half, ap (λ n. q * 2 * n) half ∙ run_starts i q, double_power i, run_fits k (suc i) q level pair)

-- a run of level i + 1 is a pair of runs of level i, as the code computes its start
pub pair_of_run : (k i q : ℕ) → IsRun k (suc i) q → IsPair k i (q * 2 * (1 * 2 ^ i % 18446744073709551616))
pair_of_run k i q run =
    let few : i < 16 = omega (arith, run.few, run.level) in
    record { few = run.few; level = run.level; fits = omega (arith, pair_places k i q few run.level run.run) }

pub pair_kept : {k n i start : ℕ} → k ≡ n → IsPair n i start → IsPair k i start
pair_kept {i = i} {start = start} e pair = subst (λ m. IsPair m i start) (sym e) pair

-- the halves of a pair, as a shift computes their size
pub upper_to_lower : (k i start : ℕ) → IsPair k i start → AreTwoRuns (2 ^ k) (start + 1 * 2 ^ i % 18446744073709551616) start (1 * 2 ^ i % 18446744073709551616)
upper_to_lower k i start pair =
    let half : 1 * 2 ^ i % 18446744073709551616 ≡ 2 ^ i = shifted i (omega (arith, pair.few, pair.level)) in
    record { from = omega (arith, half, double_power i, pair.fits); to = omega (arith, half, double_power i, pair.fits); apart = inr (omega arith) }

pub lower_to_upper : (k i start : ℕ) → IsPair k i start → AreTwoRuns (2 ^ k) start (start + 1 * 2 ^ i % 18446744073709551616) (1 * 2 ^ i % 18446744073709551616)
lower_to_upper k i start pair = let runs = upper_to_lower k i start pair in record { from = runs.to; to = runs.from; apart = inl (omega arith) }

pub same_outside : (a b : ℕ) (f : ℕ → ℕ) → SameValuesOutside a b f f
same_outside a b f = record { below = λ u h. refl; above = λ u h. refl }

pub outside_then : (a b a1 b1 a2 b2 : ℕ) (f g h : ℕ → ℕ) → SameValuesOutside a1 b1 f g → SameValuesOutside a2 b2 g h → a ≤ a1 → a ≤ a2 → b1 ≤ b → b2 ≤ b → SameValuesOutside a b f h
outside_then a b a1 b1 a2 b2 f g h first second l1 l2 r1 r2 = grind arith

-- another value is added at one place
pub record IsOneAdded (to other : ℕ) (old new : ℕ → ℕ) : Type 0 where
  pub others : (u : ℕ) → u ≢ to → new u ≡ old u
  pub here : new to ≡ bit_xor (old to) other

pub outside_one : (a b to v : ℕ) (f g : ℕ → ℕ) → IsOneAdded to v f g → a ≤ to → to < b → SameValuesOutside a b f g
outside_one a b to v f g one low high = grind arith

-- ---- one value

pub one_same : (to to' v w : ℕ) (f g : ℕ → ℕ) → to ≡ to' → v ≡ w → IsOneAdded to v f g → IsOneAdded to' w f g
one_same to to' v w f g et ev one = subst (λ t. IsOneAdded t w f g) et (subst (λ x. IsOneAdded to x f g) ev one)

pub one_written : (xs : List ℕ) (to v : ℕ) → to < length xs → IsOneAdded to v (λ u. get_or xs u 0) (λ u. get_or (set xs to (bit_xor (get_or xs to 0) v)) u 0)
one_written xs to v h = record {
  others = λ u n. get_or-set_other xs to u (bit_xor (get_or xs to 0) v) 0 n;
  here = get_or-set_same xs to (bit_xor (get_or xs to 0) v) 0 h;
}

-- ---- a run

pub run_start : (at to : ℕ) (f : ℕ → ℕ) → RunAdded at to 0 f f
run_start at to f = record { others = same_outside to (to + 0) f; run = λ e h. absurd (omega (arith, h)) }

pub run_next : (at to n : ℕ) (f g h : ℕ → ℕ) → (at + n < to) ⊎ (to + n ≤ at + n) → RunAdded at to n f g → IsOneAdded (to + n) (g (at + n)) g h → RunAdded at to (n + 1) f h
run_next at to n f g h apart so_far one = record {
  others = outside_then to (to + (n + 1)) to (to + n) to (to + (n + 1)) f g h so_far.others (outside_one to (to + (n + 1)) (to + n) (g (at + n)) g h one (omega arith) (omega arith)) (omega arith) (omega arith) (omega arith) (omega arith);
  run = λ e l. elim (cases_eq e n) [
    | inl last ↦ subst (λ d. h (to + d) ≡ bit_xor (f (to + d)) (f (at + d))) (sym last)
        (one.here ∙ ap₂ bit_xor (so_far.others.above (to + n) (omega arith)) (elim apart [ inl b ↦ so_far.others.below (at + n) b | inr a ↦ so_far.others.above (at + n) a ]))
    | inr other ↦ one.others (to + e) (λ s. other (omega arith)) ∙ so_far.run e (omega arith)
  ];
}

pub run_by_fit : (k : ℕ → ℕ) (at to n : ℕ) (f g : ℕ → ℕ) → ((v : ℕ) → v < 65536 → k v < 65536) → RunAddedBy k at to n f g → GivesElements f → GivesElements g
run_by_fit k at to n f g small added fit u = elim (cases_lt u to) [
  | inl low ↦ subst (λ x. x < 65536) (sym (added.others.below u low)) (fit u)
  | inr high ↦ elim (cases_lt u (to + n)) [
    | inl inside ↦
        let e : to + (u - to) ≡ u = omega arith in
        subst (λ x. g x < 65536) e (subst (λ x. x < 65536) (sym (added.run (u - to) (omega arith))) (xor_lt 16 (f (to + (u - to))) (k (f (at + (u - to)))) (fit (to + (u - to))) (small (f (at + (u - to))) (fit (at + (u - to))))))
    | inr above ↦ subst (λ x. x < 65536) (sym (added.others.above u above)) (fit u)
  ]
]

pub run_fit : (at to n : ℕ) (f g : ℕ → ℕ) → RunAdded at to n f g → GivesElements f → GivesElements g
run_fit at to n f g added fit = run_by_fit (λ x. x) at to n f g (λ v lt. lt) added fit

-- nothing changes if zeros are added
pub run_none : (k : ℕ → ℕ) (at to n : ℕ) (f : ℕ → ℕ) → ((v : ℕ) → k v ≡ 0) → RunAddedBy k at to n f f
run_none k at to n f none = record {
  others = same_outside to (to + n) f;
  run = λ e l. sym (ap (bit_xor (f (to + e))) (none (f (at + e))) ∙ xor_zero_r (f (to + e)));
}

-- both runs of a butterfly, one after the other
pub run_same : (to n : ℕ) (first second f g : ℕ → ℕ) → AddsToRun to n first f g → ((e : ℕ) → e < n → first e ≡ second e) → AddsToRun to n second f g
run_same to n first second f g added same = record { others = added.others; run = λ e l. added.run e l ∙ ap (bit_xor (f (to + e))) (same e l) }

pub butterfly_runs : (k : ℕ → ℕ) (low high n : ℕ) (f g h : ℕ → ℕ) → low + n ≤ high → RunAddedBy k high low n f g → RunAdded low high n g h → IsButterfly k low high n f h
butterfly_runs k low high n f g h order first second = grind arith

pub butterfly_at : (k : ℕ → ℕ) (low low2 high high2 n m : ℕ) (f g : ℕ → ℕ) → low ≡ low2 → high ≡ high2 → n ≡ m → IsButterfly k low high n f g → IsButterfly k low2 high2 m f g
butterfly_at k low low2 high high2 n m f g el eh en both = subst (λ x. IsButterfly k x high2 m f g) el (subst (λ x. IsButterfly k low x m f g) eh (subst (λ x. IsButterfly k low high x f g) en both))

-- ---- at equal positions

pub run_by_at : (k : ℕ → ℕ) (at at2 to to2 n m : ℕ) (f g : ℕ → ℕ) → at ≡ at2 → to ≡ to2 → n ≡ m → RunAddedBy k at to n f g → RunAddedBy k at2 to2 m f g
run_by_at k at at2 to to2 n m f g ea et en added = subst (λ x. RunAddedBy k x to2 m f g) ea (subst (λ x. RunAddedBy k at x m f g) et (subst (λ x. RunAddedBy k at to x f g) en added))

pub run_at : (at at2 to to2 n m : ℕ) (f g : ℕ → ℕ) → at ≡ at2 → to ≡ to2 → n ≡ m → RunAdded at to n f g → RunAdded at2 to2 m f g
run_at at at2 to to2 n m f g ea et en added = run_by_at (λ x. x) at at2 to to2 n m f g ea et en added

-- ---- values ahead

pub ahead_same : (i e d : ℕ) (f g : ℕ → ℕ) → ((j : ℕ) → j < i → f (e + 2 ^ j) ≡ g (d + 2 ^ j)) → sum_ahead i f e ≡ sum_ahead i g d
ahead_same i e d f g same = field_sum_same i (λ j. bit_at (powers_in i) j * f (e + 2 ^ j)) (λ j. bit_at (powers_in i) j * g (d + 2 ^ j)) (λ j h. ap (λ v. bit_at (powers_in i) j * v) (same j h))

-- the first n of them have been added
abbrev pub ahead_below : ℕ → ℕ → ℕ → (ℕ → ℕ) → ℕ
ahead_below i at n f = field_sum n (λ j. bit_at (powers_in i) j * f (at + 2 ^ j))

-- ---- raising and merging

pub ahead_start : (i start a b : ℕ) (f : ℕ → ℕ) → AheadAdded i start a b 0 f f
unfolding field_sum
ahead_start i start a b f = record { others = same_outside (start + 2 ^ i) (start + 2 ^ suc i) f; run = λ e h. sym (xor_zero_r (from start f (2 ^ i + e))) }

pub ahead_unset : (i start a b n : ℕ) → (bit_at (powers_in i) n ≡ 1 → ⊥) → (f g : ℕ → ℕ) → AheadAdded i start a b n f g → AheadAdded i start a b (n + 1) f g
ahead_unset i start a b n unset f g so_far = record {
  others = so_far.others;
  run = λ e h. so_far.run e h ∙ ap (bit_xor (from start f (2 ^ i + e))) (sym (field_sum_bit_unset n (powers_in i) (λ j. within a b (e + 2 ^ j) (from start f (e + 2 ^ j))) unset));
}

-- one more power: a run from s is added to one at t in the upper half
pub ahead_set : (i start a b n s t count : ℕ) (f g h : ℕ → ℕ) → bit_at (powers_in i) n ≡ 1 → t + count ≤ 2 ^ i
    → ((e : ℕ) → e < count → (s + e ≡ t + e + 2 ^ n) × ((a ≤ t + e + 2 ^ n) × (t + e + 2 ^ n < b)))
    → ((e : ℕ) → e < 2 ^ i → (e < t) ⊎ (t + count ≤ e) → (e + 2 ^ n < a) ⊎ (b ≤ e + 2 ^ n))
    → ((e : ℕ) → e < count → from start g (s + e) ≡ from start f (s + e))
    → AheadAdded i start a b n f g → RunAdded (start + s) (start + (2 ^ i + t)) count g h → AheadAdded i start a b (n + 1) f h
ahead_set i start a b n s t count f g h set fits inside outside same so_far added = record {
  others = outside_then (start + 2 ^ i) (start + 2 ^ suc i) (start + 2 ^ i) (start + 2 ^ suc i) (start + (2 ^ i + t)) (start + (2 ^ i + t) + count) f g h so_far.others added.others (omega arith) (omega arith) (omega arith) (omega (arith, double_power i));
  run = λ e l. here e l ∙ ap (λ v. bit_xor v (ahead e n)) (so_far.run e l) ∙ xor_assoc (from start f (2 ^ i + e)) (field_sum n (λ j. bit_at (powers_in i) j * ahead e j)) (ahead e n)
      ∙ ap (bit_xor (from start f (2 ^ i + e))) (sym (field_sum_bit_set n (powers_in i) (ahead e) set));
}
  where
    ahead : ℕ → ℕ → ℕ
    ahead e j = within a b (e + 2 ^ j) (from start f (e + 2 ^ j))

    none : (e : ℕ) → (e + 2 ^ n < a) ⊎ (b ≤ e + 2 ^ n) → ahead e n ≡ 0
    none e (inl low) = within-below a b (e + 2 ^ n) (from start f (e + 2 ^ n)) low
    none e (inr high) = within-above a b (e + 2 ^ n) (from start f (e + 2 ^ n)) high

    kept : (e : ℕ) → e < 2 ^ i → (e < t) ⊎ (t + count ≤ e) → h (start + (2 ^ i + e)) ≡ g (start + (2 ^ i + e)) → from start h (2 ^ i + e) ≡ bit_xor (from start g (2 ^ i + e)) (ahead e n)
    kept e l out is = is ∙ sym (ap (bit_xor (from start g (2 ^ i + e))) (none e (outside e l out)) ∙ xor_zero_r (from start g (2 ^ i + e)))

    changed : (e d : ℕ) → d < count → e ≡ t + d → from start h (2 ^ i + e) ≡ bit_xor (from start g (2 ^ i + e)) (ahead e n)
    changed e d l is =
        let facts = inside d l in
        let at : t + d + 2 ^ n ≡ e + 2 ^ n = omega (arith, is) in
        ap h (let p : start + (2 ^ i + e) ≡ start + (2 ^ i + t) + d = omega (arith, is) in p) ∙ added.run d l
        ∙ ap₂ bit_xor (ap g (let p : start + (2 ^ i + t) + d ≡ start + (2 ^ i + e) = omega (arith, is) in p))
        (ap g (add_assoc start s d) ∙ same d l ∙ ap (from start f) (facts.0 ∙ at)
        ∙ sym (within-in a b (e + 2 ^ n) (from start f (e + 2 ^ n)) (omega (arith, facts.1.0, at)) (omega (arith, facts.1.1, at))))

    here : (e : ℕ) → e < 2 ^ i → from start h (2 ^ i + e) ≡ bit_xor (from start g (2 ^ i + e)) (ahead e n)
    here e l = elim (cases_lt e t) [
      | inl low ↦ kept e l (inl low) (added.others.below (start + (2 ^ i + e)) (omega arith))
      | inr high ↦ elim (cases_lt e (t + count)) [
        | inl inner ↦ changed e (e - t) (omega arith) (omega arith)
        | inr above ↦ kept e l (inr above) (added.others.above (start + (2 ^ i + e)) (omega arith))
      ]
    ]

-- the values that are read in the upper half are complete
pub ahead_whole : (i start n : ℕ) (f g : ℕ → ℕ) → n ≤ i → AheadAdded i start (2 ^ i) (2 ^ suc i) n f g → (e : ℕ) → e + e < 2 ^ i → from start g (2 ^ i + e) ≡ from start f (2 ^ i + e)
ahead_whole i start n f g few added e low =
    added.run e (omega arith)
    ∙ ap (bit_xor (from start f (2 ^ i + e))) (field_sum_none n (λ j. bit_at (powers_in i) j * within (2 ^ i) (2 ^ suc i) (e + 2 ^ j) (from start f (e + 2 ^ j)))
    (λ j l. let under : 2 ^ j + 2 ^ j ≤ 2 ^ i = power_below j i (omega arith) in
    ap (λ v. bit_at (powers_in i) j * v) (within-below (2 ^ i) (2 ^ suc i) (e + 2 ^ j) (from start f (e + 2 ^ j)) (omega (arith, under, low))) ∙ mul-zero (bit_at (powers_in i) j)))
    ∙ xor_zero_r (from start f (2 ^ i + e))

-- a run is added from the lower half, and one from the upper half, at the positions that shifts compute
pub lower_set : (i start n : ℕ) → i < 16 → n < i → bit_at (powers_in i) n ≡ 1 → (f g h : ℕ → ℕ) → AheadAdded i start 0 (2 ^ i) n f g
    → RunAdded (start + 1 * 2 ^ n % 18446744073709551616) (start + 1 * 2 ^ i % 18446744073709551616) (1 * 2 ^ i % 18446744073709551616 - 1 * 2 ^ n % 18446744073709551616) g h → AheadAdded i start 0 (2 ^ i) (n + 1) f h
lower_set i start n few low set f g h first second =
    let places = shifts i n few low in
    ahead_set i start 0 (2 ^ i) n (2 ^ n) 0 (2 ^ i - 2 ^ n) f g h set (omega arith) (λ e m. (omega arith, (omega arith, omega (arith, places, m))))
    (λ e m out. elim out [ inl none ↦ absurd (omega (arith, none)) | inr above ↦ inr (omega (arith, places, above)) ]) (λ e m. first.others.below (start + (2 ^ n + e)) (omega (arith, places, m))) first
    (run_at _ _ _ _ _ _ g h (omega (arith, places)) (omega (arith, places)) (omega (arith, places)) second)

pub upper_set : (i start n : ℕ) → i < 16 → n < i → bit_at (powers_in i) n ≡ 1 → (f g h : ℕ → ℕ) → AheadAdded i start (2 ^ i) (2 ^ suc i) n f g
    → RunAdded (start + 1 * 2 ^ i % 18446744073709551616) (start + 2 * (1 * 2 ^ i % 18446744073709551616) - 1 * 2 ^ n % 18446744073709551616) (1 * 2 ^ n % 18446744073709551616) g h → AheadAdded i start (2 ^ i) (2 ^ suc i) (n + 1) f h
upper_set i start n few low set f g h first second =
    let places = shifts i n few low in
    ahead_set i start (2 ^ i) (2 ^ suc i) n (2 ^ i) (2 ^ i - 2 ^ n) (2 ^ n) f g h set (omega (arith, places)) (λ e m. (omega (arith, places), (omega (arith, places), omega (arith, places, m))))
    (λ e m out. elim out [ inl before ↦ inl (omega (arith, places, before)) | inr above ↦ absurd (omega (arith, places, above, m)) ]) (λ e m. ahead_whole i start n f g (omega arith) first e (omega (arith, places, m))) first
    (run_at _ _ _ _ _ _ g h (omega (arith, places)) (omega (arith, places)) (omega (arith, places)) second)

pub raised_runs : (i c start : ℕ) (f g k h : ℕ → ℕ) → RunAddedBy (mul c) start (start + 2 ^ i) (2 ^ i) f g → AheadAdded i start 0 (2 ^ i) i g k
    → AheadAdded i start (2 ^ i) (2 ^ suc i) i k h → IsRaised i c start 0 f h
raised_runs i c start f g k h scaled first second = record {
  others = outside_then (start + 2 ^ i + 0) end (start + 2 ^ i) end (start + 2 ^ i) end f k h
      (outside_then (start + 2 ^ i) end (start + 2 ^ i) (start + 2 ^ i + 2 ^ i) (start + 2 ^ i) end f g k scaled.others first.others (omega arith) (omega arith) (omega (arith, double)) (omega arith)) second.others (omega arith) (omega arith) (omega arith) (omega arith);
  run = λ e m l.
      second.run e l ∙ ap₂ bit_xor (first.run e l ∙ ap (λ v. bit_xor v (lower e)) (product e l)) refl
      ∙ xor_assoc (bit_xor (from start f (2 ^ i + e)) (mul c (from start h e))) (lower e) (upper e)
      ∙ xor_assoc (from start f (2 ^ i + e)) (mul c (from start h e)) (bit_xor (lower e) (upper e))
      ∙ ap (λ v. bit_xor (from start f (2 ^ i + e)) (bit_xor (mul c (from start h e)) v)) (joined e l);
}
  where
    end : ℕ
    end = start + 2 ^ suc i

    double : 2 ^ suc i ≡ 2 ^ i + 2 ^ i
    double = double_power i

    lower : ℕ → ℕ
    lower e = field_sum i (λ j. bit_at (powers_in i) j * within 0 (2 ^ i) (e + 2 ^ j) (from start g (e + 2 ^ j)))

    upper : ℕ → ℕ
    upper e = field_sum i (λ j. bit_at (powers_in i) j * within (2 ^ i) (2 ^ suc i) (e + 2 ^ j) (from start k (e + 2 ^ j)))

    -- the lower half is unchanged
    low_same : (u : ℕ) → u < 2 ^ i → from start h u ≡ from start g u
    low_same u l = second.others.below (start + u) (omega arith) ∙ first.others.below (start + u) (omega arith)

    product : (e : ℕ) → e < 2 ^ i → from start g (2 ^ i + e) ≡ bit_xor (from start f (2 ^ i + e)) (mul c (from start h e))
    product e l =
        ap g (sym (add_assoc start (2 ^ i) e)) ∙ scaled.run e l
        ∙ ap₂ (λ a b. bit_xor (f a) (mul c b)) (add_assoc start (2 ^ i) e) (sym (low_same e l ∙ scaled.others.below (start + e) (omega arith)))

    one : (e j : ℕ) → e < 2 ^ i → j < i → bit_xor (within 0 (2 ^ i) (e + 2 ^ j) (from start g (e + 2 ^ j))) (within (2 ^ i) (2 ^ suc i) (e + 2 ^ j) (from start k (e + 2 ^ j))) ≡ from start h (e + 2 ^ j)
    one e j l m =
        let under : 2 ^ j + 2 ^ j ≤ 2 ^ i = power_below j i m in
        let p = e + 2 ^ j in
        let v = from start h p in
        ap₂ bit_xor (within_same 0 (2 ^ i) p (from start g p) v (λ a b. sym (low_same p b)))
        (within_same (2 ^ i) (2 ^ suc i) p (from start k p) v (λ a b.
        let place : 2 ^ i + (p - 2 ^ i) ≡ p = omega (arith, a) in
        sym (subst (λ q. from start h q ≡ from start k q) place (ahead_whole i start i k h (omega arith) second (p - 2 ^ i) (omega (arith, under, l, a))))))
        ∙ within_joined 0 (2 ^ i) (2 ^ suc i) p v (omega arith) (omega (arith, double)) ∙ within-in 0 (2 ^ suc i) p v (omega arith) (omega (arith, double, under, l))

    joined : (e : ℕ) → e < 2 ^ i → bit_xor (lower e) (upper e) ≡ sum_ahead i (from start h) e
    joined e l =
        let bits = powers_in i in
        let a : ℕ → ℕ = λ j. within 0 (2 ^ i) (e + 2 ^ j) (from start g (e + 2 ^ j)) in
        let b : ℕ → ℕ = λ j. within (2 ^ i) (2 ^ suc i) (e + 2 ^ j) (from start k (e + 2 ^ j)) in
        sym (field_sum_xor i (λ j. bit_at bits j * a j) (λ j. bit_at bits j * b j))
        ∙ field_sum_same i (λ j. bit_xor (bit_at bits j * a j) (bit_at bits j * b j)) (λ j. bit_at bits j * from start h (e + 2 ^ j))
        (λ j m. sym (bit_times_xor bits j (a j) (b j)) ∙ ap (λ v. bit_at bits j * v) (one e j l m))

pub merged_runs : (i c start : ℕ) (f g h : ℕ → ℕ) → RunAdded (start + 2 ^ i) start (2 ^ i) f g → IsRaised i c start 0 g h → OneRun start (2 ^ suc i) (IsMerged i c) f h
merged_runs i c start f g h first second =
    let double : 2 ^ suc i ≡ 2 ^ i + 2 ^ i = double_power i in
    record {
      others = outside_then start (start + 2 ^ suc i) start (start + 2 ^ i) (start + 2 ^ i + 0) (start + 2 ^ suc i) f g h first.others second.others (omega arith) (omega arith) (omega arith) (omega arith);
      run = record {
        low = λ e l. second.others.below (start + e) (omega arith) ∙ first.run e l ∙ ap (λ n. bit_xor (f (start + e)) (f n)) (add_assoc start (2 ^ i) e);
        high = λ e l. second.run e (omega arith) l ∙ ap (λ v. bit_xor v (bit_xor (mul c (from start h e)) (sum_ahead i (from start h) e))) (first.others.above (start + (2 ^ i + e)) (omega arith));
      };
    }

pub raised_at : (i c c2 start start2 : ℕ) (f g : ℕ → ℕ) → c ≡ c2 → start ≡ start2 → IsRaised i c start 0 f g → IsRaised i c2 start2 0 f g
raised_at i c c2 start start2 f g ec es raised = subst (λ x. IsRaised i x start2 0 f g) ec (subst (λ x. IsRaised i c x 0 f g) es raised)

-- ---- and back

pub lower_start : (i c start m : ℕ) (f : ℕ → ℕ) → 2 ^ i ≤ m → IsRaised i c start m f f
lower_start i c start m f h = record { others = same_outside (start + 2 ^ i + m) (start + 2 ^ suc i) f; run = λ e l low. absurd (omega (arith, h, l, low)) }

pub lower_next : (i c start m : ℕ) (f g h : ℕ → ℕ) → m < 2 ^ i → IsRaised i c start (m + 1) g f
    → IsOneAdded (start + 2 ^ i + m) (bit_xor (mul c (g (start + m))) (sum_ahead i g (start + m))) g h → IsRaised i c start m h f
lower_next i c start m f g h low so_far one = record {
  others = record { below = λ u l. so_far.others.below u (omega arith) ∙ sym (one.others u (λ e. omega arith)); above = λ u l. so_far.others.above u l ∙ sym (one.others u (λ e. omega (arith, double_power i))) };
  run = λ e n l. elim (cases_eq e m) [
    | inl last ↦ subst (λ d. from start f (2 ^ i + d) ≡ bit_xor (from start h (2 ^ i + d)) (bit_xor (mul c (from start f d)) (sum_ahead i (from start f) d))) (sym last)
        (sym (ap₂ bit_xor (ap h place ∙ one.here ∙ ap (λ v. bit_xor v x) (sym (so_far.others.below to (omega arith)))) (sym same) ∙ xor_off (f to) x ∙ ap f (sym place)))
    | inr other ↦ so_far.run e (omega arith) l ∙ ap (λ v. bit_xor v (bit_xor (mul c (from start f e)) (sum_ahead i (from start f) e))) (sym (one.others (start + (2 ^ i + e)) (λ s. other (omega arith))))
  ];
}
  where
    to : ℕ
    to = start + 2 ^ i + m

    x : ℕ
    x = bit_xor (mul c (g (start + m))) (sum_ahead i g (start + m))

    place : start + (2 ^ i + m) ≡ to
    place = omega arith

    same : x ≡ bit_xor (mul c (from start f m)) (sum_ahead i (from start f) m)
    same = ap₂ bit_xor (ap (mul c) (sym (so_far.others.below (start + m) (omega arith))))
        (ahead_same i (start + m) m g (from start f) (λ j l.
        let under : 2 ^ j + 2 ^ j ≤ 2 ^ i = power_below j i l in
        sym (so_far.others.below (start + m + 2 ^ j) (omega arith)) ∙ ap f (add_assoc start m (2 ^ j))))

-- a run is added twice
pub run_back : (at to n : ℕ) (f g : ℕ → ℕ) → to + n ≤ at → RunAdded at to n f g → RunAdded at to n g f
run_back at to n f g order added = grind (arith, xor_off)

-- what `auto` is given for the code
pub ruleset level_steps = (shifted, shifts, double_power, power_below, run_starts, pair_places, pair_of_run, pair_kept, upper_to_lower, lower_to_upper, lower_start, run_start, run_next, one_written)

-- The division of a run of coefficients by the subspace polynomial minus a constant.

-- ---- a polynomial to which a run of coefficients is added

pub run_from : (k : ℕ → ℕ) (start at to n : ℕ) (f g : ℕ → ℕ) → RunAddedBy k (start + at) (start + to) n f g → RunAddedBy k at to n (from start f) (from start g)
run_from k start at to n f g added = record {
  others = record { below = λ u l. added.others.below (start + u) (omega arith); above = λ u l. added.others.above (start + u) (omega arith) };
  run = λ e l. ap g (sym (add_assoc start to e)) ∙ added.run e l ∙ ap₂ (λ a b. bit_xor (f a) (k (f b))) (add_assoc start to e) (add_assoc start at e);
}

pub value_run : (k : ℕ → ℕ) (at to n r x : ℕ) (f g : ℕ → ℕ) → RunAddedBy k at to n f g
    → value (to + (n + r)) g x ≡ bit_xor (value (to + (n + r)) f x) (field_sum n (λ d. mul (k (f (at + d))) (pow x (to + d))))
value_run k at to n r x f g added =
    parts g ∙ ap₂ bit_xor (field_sum_same to (term g) (term f) (λ m l. ap (λ v. mul v (pow x m)) (added.others.below m l)))
    (ap₂ bit_xor middle (field_sum_same r (λ d. term g (to + (n + d))) (λ d. term f (to + (n + d))) (λ d l. ap (λ v. mul v (pow x (to + (n + d)))) (added.others.above (to + (n + d)) (omega arith)))))
    ∙ step (field_sum to (term f)) (field_sum n (λ d. term f (to + d))) more (field_sum r (λ d. term f (to + (n + d))))
    ∙ ap (λ v. bit_xor v more) (sym (parts f))
  where
    term : (ℕ → ℕ) → ℕ → ℕ
    term h m = mul (h m) (pow x m)

    more : ℕ
    more = field_sum n (λ d. mul (k (f (at + d))) (pow x (to + d)))

    parts : (h : ℕ → ℕ) → value (to + (n + r)) h x ≡ bit_xor (field_sum to (term h)) (bit_xor (field_sum n (λ d. term h (to + d))) (field_sum r (λ d. term h (to + (n + d)))))
    parts h = field_sum_join to (n + r) (term h) ∙ ap (bit_xor (field_sum to (term h))) (field_sum_join n r (λ d. term h (to + d)))

    middle : field_sum n (λ d. term g (to + d)) ≡ bit_xor (field_sum n (λ d. term f (to + d))) more
    middle =
        field_sum_same n (λ d. term g (to + d)) (λ d. bit_xor (term f (to + d)) (mul (k (f (at + d))) (pow x (to + d))))
        (λ d l. ap (λ v. mul v (pow x (to + d))) (added.run d l) ∙ (product_linear_left (pow x (to + d))).on_xor (f (to + d)) (k (f (at + d))))
        ∙ field_sum_xor n (λ d. term f (to + d)) (λ d. mul (k (f (at + d))) (pow x (to + d)))

    step : (a b m c : ℕ) → bit_xor a (bit_xor (bit_xor b m) c) ≡ bit_xor (bit_xor a (bit_xor b c)) m
    step a b m c = ap (bit_xor a) (xor_assoc b m c ∙ ap (bit_xor b) (xor_comm m c) ∙ sym (xor_assoc b c m)) ∙ sym (xor_assoc a (bit_xor b c) m)

-- ---- spreading

pub above_start : (i start : ℕ) (f : ℕ → ℕ) → IsSpreadAbove i start 0 f f
unfolding field_sum
above_start i start f = grind (arith, same_outside, xor_zero_r)

pub above_set : (i start n : ℕ) → i < 16 → n < i → bit_at (powers_in i) n ≡ 1 → (f g h : ℕ → ℕ) → IsSpreadAbove i start n f g
    → RunAdded (start + 2 * (1 * 2 ^ i % 18446744073709551616) - 1 * 2 ^ n % 18446744073709551616) (start + 1 * 2 ^ i % 18446744073709551616) (1 * 2 ^ n % 18446744073709551616) g h → IsSpreadAbove i start (n + 1) f h
above_set i start n few low set f g h so_far computed = record {
  others = outside_then (start + 2 ^ i) (start + 2 ^ suc i) (start + 2 ^ i) (start + 2 ^ suc i) (start + 2 ^ i) (start + 2 ^ i + 2 ^ n) f g h so_far.others added.others (omega arith) (omega arith) (omega arith) (omega (arith, double, under));
  kept = λ e l. added.others.above (start + (2 ^ i + e)) (omega (arith, under, l)) ∙ so_far.kept e l;
  short = λ m most none. spread_short m (so_far.short m most none) most;
  fit = λ fit. run_fit (start + (2 ^ i + (2 ^ i - 2 ^ n))) (start + 2 ^ i) (2 ^ n) g h added (so_far.fit fit);
  values = λ x.
      ap (λ m. value m (from start h) x) (sym whole)
      ∙ value_run (λ v. v) (2 ^ i + (2 ^ i - 2 ^ n)) (2 ^ i) (2 ^ n) (2 ^ i - 2 ^ n) x (from start g) (from start h) (run_from (λ v. v) start (2 ^ i + (2 ^ i - 2 ^ n)) (2 ^ i) (2 ^ n) g h added)
      ∙ ap₂ bit_xor (ap (λ m. value m (from start g) x) whole ∙ so_far.values x)
      (field_sum_same (2 ^ n) (λ d. mul (from start g (2 ^ i + (2 ^ i - 2 ^ n) + d)) (pow x (2 ^ i + d))) (λ d. mul (from (2 ^ i) (from start f) (2 ^ i - 2 ^ n + d)) (pow x (2 ^ i + d)))
      (λ d l. ap (λ v. mul v (pow x (2 ^ i + d))) (ap (from start g) (add_assoc (2 ^ i) (2 ^ i - 2 ^ n) d) ∙ so_far.kept (2 ^ i - 2 ^ n + d) (omega (arith, under)))))
      ∙ xor_assoc (value (2 ^ suc i) (from start f) x) (field_sum n (λ j. bit_at (powers_in i) j * terms x j)) (terms x n)
      ∙ ap (bit_xor (value (2 ^ suc i) (from start f) x)) (sym (field_sum_bit_set n (powers_in i) (terms x) set));
}
  where
    under : 2 ^ n + 2 ^ n ≤ 2 ^ i
    under = power_below n i low

    double : 2 ^ suc i ≡ 2 ^ i + 2 ^ i
    double = double_power i

    added : RunAdded (start + (2 ^ i + (2 ^ i - 2 ^ n))) (start + 2 ^ i) (2 ^ n) g h
    added = let places = shifts i n few low in run_at _ _ _ _ _ _ g h (omega (arith, places)) (omega (arith, places)) (omega (arith, places)) computed

    whole : 2 ^ i + (2 ^ n + (2 ^ i - 2 ^ n)) ≡ 2 ^ suc i
    whole = omega (arith, under, double)

    terms : ℕ → ℕ → ℕ
    terms x j = spread_beyond i (from (2 ^ i) (from start f)) x j

    -- zeros are added to zeros
    spread_short : (m : ℕ) → AreZeroFrom m (suc i) (from start g) → 2 ^ i ≤ m → AreZeroFrom m (suc i) (from start h)
    spread_short m none most k high low =
        let e : ℕ = k - 2 ^ i in
        let at : start + 2 ^ i + e ≡ start + k = omega (arith, most, high) in
        elim (cases_lt e (2 ^ n)) [
          | inl first ↦
              let source : start + (2 ^ i + (2 ^ i - 2 ^ n)) + e ≡ start + (k + (2 ^ i - 2 ^ n)) = omega (arith, most, high, under) in
              ap h (sym at) ∙ added.run e first ∙ ap₂ bit_xor (ap g at ∙ none k high low) (ap g source ∙ none (k + (2 ^ i - 2 ^ n)) (omega (arith, high)) (omega (arith, first, most, high, under, double)))
          | inr past ↦ added.others.above (start + k) (omega (arith, past, most, high)) ∙ none k high low
        ]

pub above_unset : (i start n : ℕ) → (bit_at (powers_in i) n ≡ 1 → ⊥) → (f g : ℕ → ℕ) → IsSpreadAbove i start n f g → IsSpreadAbove i start (n + 1) f g
above_unset i start n unset f g so_far = record {
  others = so_far.others;
  kept = so_far.kept;
  short = so_far.short;
  fit = so_far.fit;
  values = λ x. so_far.values x ∙ ap (bit_xor (value (2 ^ suc i) (from start f) x)) (sym (field_sum_bit_unset n (powers_in i) (spread_beyond i (from (2 ^ i) (from start f)) x) unset));
}

pub below_start : (i start : ℕ) (f : ℕ → ℕ) → IsSpreadBelow i start 0 f f
unfolding field_sum
below_start i start f = grind (arith, same_outside, xor_zero_r)

pub below_set : (i start n : ℕ) → i < 16 → n < i → bit_at (powers_in i) n ≡ 1 → (f g h : ℕ → ℕ) → IsSpreadBelow i start n f g
    → RunAdded (start + 1 * 2 ^ i % 18446744073709551616) (start + 1 * 2 ^ n % 18446744073709551616) (1 * 2 ^ i % 18446744073709551616 - 1 * 2 ^ n % 18446744073709551616) g h → IsSpreadBelow i start (n + 1) f h
below_set i start n few low set f g h so_far computed = record {
  others = outside_then start (start + 2 ^ i) start (start + 2 ^ i) (start + 2 ^ n) (start + 2 ^ n + (2 ^ i - 2 ^ n)) f g h so_far.others added.others (omega arith) (omega arith) (omega arith) (omega (arith, under));
  fit = λ fit. run_fit (start + 2 ^ i) (start + 2 ^ n) (2 ^ i - 2 ^ n) g h added (so_far.fit fit);
  values = λ x.
      ap (λ m. value m (from start h) x) (sym whole)
      ∙ value_run (λ v. v) (2 ^ i) (2 ^ n) (2 ^ i - 2 ^ n) (2 ^ i) x (from start g) (from start h) (run_from (λ v. v) start (2 ^ i) (2 ^ n) (2 ^ i - 2 ^ n) g h added)
      ∙ ap₂ bit_xor (ap (λ m. value m (from start g) x) whole ∙ so_far.values x)
      (field_sum_same (2 ^ i - 2 ^ n) (λ d. mul (from start g (2 ^ i + d)) (pow x (2 ^ n + d))) (λ d. mul (from start f (2 ^ i + d)) (pow x (2 ^ n + d)))
      (λ d l. ap (λ v. mul v (pow x (2 ^ n + d))) (so_far.others.above (start + (2 ^ i + d)) (omega arith))))
      ∙ xor_assoc (value (2 ^ suc i) (from start f) x) (field_sum n (λ j. bit_at (powers_in i) j * terms x j)) (terms x n)
      ∙ ap (bit_xor (value (2 ^ suc i) (from start f) x)) (sym (field_sum_bit_set n (powers_in i) (terms x) set));
}
  where
    under : 2 ^ n + 2 ^ n ≤ 2 ^ i
    under = power_below n i low

    added : RunAdded (start + 2 ^ i) (start + 2 ^ n) (2 ^ i - 2 ^ n) g h
    added = let places = shifts i n few low in run_at _ _ _ _ _ _ g h (omega (arith, places)) (omega (arith, places)) (omega (arith, places)) computed

    whole : 2 ^ n + (2 ^ i - 2 ^ n + 2 ^ i) ≡ 2 ^ suc i
    whole = let double : 2 ^ suc i ≡ 2 ^ i + 2 ^ i = double_power i in omega (arith, under, double)

    terms : ℕ → ℕ → ℕ
    terms x j = spread_within i (from (2 ^ i) (from start f)) x j

pub below_unset : (i start n : ℕ) → (bit_at (powers_in i) n ≡ 1 → ⊥) → (f g : ℕ → ℕ) → IsSpreadBelow i start n f g → IsSpreadBelow i start (n + 1) f g
below_unset i start n unset f g so_far = record {
  others = so_far.others;
  fit = so_far.fit;
  values = λ x. so_far.values x ∙ ap (bit_xor (value (2 ^ suc i) (from start f) x)) (sym (field_sum_bit_unset n (powers_in i) (spread_within i (from (2 ^ i) (from start f)) x) unset));
}

-- ---- dividing

-- coefficients shifted by some powers
put_ahead : (n m x : ℕ) (u : ℕ → ℕ) → x < 65536 → GivesElements u → field_sum n (λ d. mul (u d) (pow x (m + d))) ≡ mul (pow x m) (value n u x)
put_ahead n m x u hx fit =
    field_sum_same n (λ d. mul (u d) (pow x (m + d))) (λ d. mul (pow x m) (mul (u d) (pow x d)))
    (λ d l.
    let p = pow x m in
    let q = pow x d in
    let hp : p < 65536 = power-lt x m hx in
    let hq : q < 65536 = power-lt x d hx in
    ap (mul (u d)) (power-add x m d hx) ∙ sym (product_assoc (u d) p q (fit d) hp hq) ∙ ap (λ v. mul v q) (product_comm (u d) p (fit d) hp) ∙ product_assoc p (u d) q hp (fit d) hq)
    ∙ field_sum_scaled n (pow x m) (λ d. mul (u d) (pow x d))

-- all additions of one power
spread_whole : (i j x : ℕ) (u : ℕ → ℕ) → j < i → x < 65536 → GivesElements u
    → bit_xor (spread_within i u x j) (spread_beyond i u x j) ≡ mul (pow x (2 ^ j)) (value (2 ^ i) u x)
spread_whole i j x u low hx fit =
    let under : 2 ^ j + 2 ^ j ≤ 2 ^ i = power_below j i low in
    let whole : 2 ^ i - 2 ^ j + 2 ^ j ≡ 2 ^ i = omega (arith, under) in
    ap (bit_xor (spread_within i u x j)) (field_sum_same (2 ^ j) (λ d. mul (u (2 ^ i - 2 ^ j + d)) (pow x (2 ^ i + d))) (λ d. mul (u (2 ^ i - 2 ^ j + d)) (pow x (2 ^ j + (2 ^ i - 2 ^ j + d))))
    (λ d l. ap (λ m. mul (u (2 ^ i - 2 ^ j + d)) (pow x m)) (let e : 2 ^ i + d ≡ 2 ^ j + (2 ^ i - 2 ^ j + d) = omega (arith, under) in e)))
    ∙ sym (field_sum_join (2 ^ i - 2 ^ j) (2 ^ j) (λ d. mul (u d) (pow x (2 ^ j + d))))
    ∙ ap (λ m. field_sum m (λ d. mul (u d) (pow x (2 ^ j + d)))) whole ∙ put_ahead (2 ^ i) (2 ^ j) x u hx fit

-- all additions of the lower powers
spread_all : (i x : ℕ) (u : ℕ → ℕ) → x < 65536 → GivesElements u
    → bit_xor (field_sum i (λ j. bit_at (powers_in i) j * spread_within i u x j)) (field_sum i (λ j. bit_at (powers_in i) j * spread_beyond i u x j)) ≡ mul (lower_powers i x) (value (2 ^ i) u x)
spread_all i x u hx fit =
    let bits = powers_in i in
    let y = value (2 ^ i) u x in
    sym (field_sum_xor i (λ j. bit_at bits j * spread_within i u x j) (λ j. bit_at bits j * spread_beyond i u x j))
    ∙ field_sum_same i (λ j. bit_xor (bit_at bits j * spread_within i u x j) (bit_at bits j * spread_beyond i u x j)) (λ j. mul (bit_at bits j * pow x (2 ^ j)) y)
    (λ j l. sym (bit_times_xor bits j (spread_within i u x j) (spread_beyond i u x j)) ∙ ap (λ v. bit_at bits j * v) (spread_whole i j x u l hx fit) ∙ sym (bit_product bits j (pow x (2 ^ j)) y))
    ∙ field_sum_linear i (λ t. mul t y) (λ j. bit_at bits j * pow x (2 ^ j)) (product_linear_left y)

-- a run without an upper half is divided already
pub short_runs : (n i start : ℕ) (f : ℕ → ℕ) → n ≤ 2 ^ i → OneRun start (2 ^ suc i) (IsHalved n i) f f
short_runs n i start f few = record {
  others = same_outside start (start + 2 ^ suc i) f;
  run = λ short.
      let double : 2 ^ suc i ≡ 2 ^ i + 2 ^ i = double_power i in
      let none : AreZeroFrom 0 i (from (2 ^ i) (from start f)) = λ m high low. short (2 ^ i + m) (omega (arith, few)) (omega (arith, low, double)) in
      let zeros : (k x m : ℕ) → m < 2 ^ i → mul (from (2 ^ i) (from start f) m) (pow x k) ≡ 0 = λ k x m low. ap (λ v. mul v (pow x k)) (none m (omega arith) low) ∙ zero-product (pow x k) in
      record {
        divided = λ x hx.
            ap (λ m. value m (from start f) x) double ∙ field_sum_join (2 ^ i) (2 ^ i) (λ m. mul (from start f m) (pow x m))
            ∙ ap (bit_xor (value (2 ^ i) (from start f) x))
            (field_sum_none (2 ^ i) (λ m. mul (from start f (2 ^ i + m)) (pow x (2 ^ i + m))) (λ m low. zeros (2 ^ i + m) x m low)
            ∙ sym (ap (mul (vanishing i x)) (field_sum_none (2 ^ i) (λ m. mul (from (2 ^ i) (from start f) m) (pow x m)) (λ m low. zeros m x m low)) ∙ product-zero (vanishing i x)));
        remainder = λ m high low. short m high (omega (arith, low, double));
        quotient = λ m high low. none m (omega arith) low;
      };
}

-- a run is divided by the subspace polynomial: what is added to the lower half and to the quotient leaves the remainder
pub halved_runs : (n i start : ℕ) (f g h : ℕ → ℕ) → 2 ^ i < n → GivesElements f → IsSpreadAbove i start i f g → IsSpreadBelow i start i g h → OneRun start (2 ^ suc i) (IsHalved n i) f h
halved_runs n i start f g h many fit above below = record {
  others = outside_then start end (start + 2 ^ i) end start (start + 2 ^ i) f g h above.others below.others (omega arith) (omega arith) (omega arith) (omega (arith, double));
  run = λ short. record {
    divided = divided;
    remainder = λ m high low. absurd (let no : m < m = omega (arith, many, high, low) in omega (arith, no));
    quotient = λ m high low. same m ∙ above.short n (omega (arith, many)) short (2 ^ i + m) (omega (arith, many, high)) (omega (arith, low, double));
  };
}
  where
    end : ℕ
    end = start + 2 ^ suc i

    double : 2 ^ suc i ≡ 2 ^ i + 2 ^ i
    double = double_power i

    upper : (ℕ → ℕ) → ℕ → ℕ
    upper v = from (2 ^ i) (from start v)

    same : (e : ℕ) → upper h e ≡ upper g e
    same e = below.others.above (start + (2 ^ i + e)) (omega arith)

    -- the value before, from the one after
    balance : (b e w l p : ℕ) → bit_xor (bit_xor b e) w ≡ bit_xor l p → b ≡ bit_xor l (bit_xor p (bit_xor w e))
    balance b e w l p is =
        sym (ap (λ v. bit_xor v (bit_xor w e)) (sym is)
        ∙ sym (xor_assoc (bit_xor (bit_xor b e) w) w e) ∙ ap (λ v. bit_xor v e) (xor_off (bit_xor b e) w) ∙ xor_off b e)
        ∙ xor_assoc l p (bit_xor w e)

    divided : (x : ℕ) → x < 2 ^ 16 → value (2 ^ suc i) (from start f) x ≡ bit_xor (value (2 ^ i) (from start h) x) (mul (vanishing i x) (value (2 ^ i) (upper h) x))
    divided x hx =
        let u = upper h in
        let fits : GivesElements u = λ e. below.fit (above.fit fit) (start + (2 ^ i + e)) in
        let y = value (2 ^ i) u x in
        let l = value (2 ^ i) (from start h) x in
        let p = pow x (2 ^ i) in
        let before = value (2 ^ suc i) (from start f) x in
        let beyond = field_sum i (λ j. bit_at (powers_in i) j * spread_beyond i u x j) in
        let within_sum = field_sum i (λ j. bit_at (powers_in i) j * spread_within i u x j) in
        let first : value (2 ^ suc i) (from start g) x ≡ bit_xor before beyond =
        above.values x ∙ ap (bit_xor before) (field_sum_same i (λ j. bit_at (powers_in i) j * spread_beyond i (upper f) x j) (λ j. bit_at (powers_in i) j * spread_beyond i u x j)
        (λ j m. ap (λ v. bit_at (powers_in i) j * v) (field_sum_same (2 ^ j) (λ d. mul (upper f (2 ^ i - 2 ^ j + d)) (pow x (2 ^ i + d))) (λ d. mul (u (2 ^ i - 2 ^ j + d)) (pow x (2 ^ i + d)))
        (λ d b. ap (λ v. mul v (pow x (2 ^ i + d))) (sym (same (2 ^ i - 2 ^ j + d) ∙ above.kept (2 ^ i - 2 ^ j + d) (let under : 2 ^ j + 2 ^ j ≤ 2 ^ i = power_below j i m in omega (arith, under)))))))) in
        let second : value (2 ^ suc i) (from start h) x ≡ bit_xor (bit_xor before beyond) within_sum =
        below.values x ∙ ap₂ bit_xor first (field_sum_same i (λ j. bit_at (powers_in i) j * spread_within i (upper g) x j) (λ j. bit_at (powers_in i) j * spread_within i u x j)
        (λ j m. ap (λ v. bit_at (powers_in i) j * v) (field_sum_same (2 ^ i - 2 ^ j) (λ d. mul (upper g d) (pow x (2 ^ j + d))) (λ d. mul (u d) (pow x (2 ^ j + d)))
        (λ d b. ap (λ v. mul v (pow x (2 ^ j + d))) (sym (same d)))))) in
        let after : value (2 ^ suc i) (from start h) x ≡ bit_xor l (mul p y) =
        ap (λ m. value m (from start h) x) double ∙ field_sum_join (2 ^ i) (2 ^ i) (λ m. mul (from start h m) (pow x m)) ∙ ap (bit_xor l) (put_ahead (2 ^ i) (2 ^ i) x u hx fits) in
        balance before beyond within_sum l (mul p y) (sym second ∙ after)
        ∙ ap (bit_xor l) (ap (bit_xor (mul p y)) (spread_all i x u hx fits)
        ∙ ap (λ t. bit_xor (mul t y) (mul (lower_powers i x) y)) (leading_power i x hx)
        ∙ ap (λ t. bit_xor t (mul (lower_powers i x) y)) ((product_linear_left y).on_xor (vanishing i x) (lower_powers i x))
        ∙ xor_off (mul (vanishing i x) y) (mul (lower_powers i x) y))

-- Combinations of products of subspace polynomials.

pub combined_same : (i : ℕ) (f g : ℕ → ℕ) (x : ℕ) → ((m : ℕ) → m < 2 ^ i → f m ≡ g m) → combined i f x ≡ combined i g x
unfolding combined
combined_same zero f g x same = same 0 (omega arith)
combined_same (suc i) f g x same =
    let double : 2 ^ suc i ≡ 2 ^ i + 2 ^ i = double_power i in
    ap₂ (λ a b. bit_xor a (mul (vanishing i x) b)) (combined_same i f g x (λ m h. same m (omega (arith, h, double)))) (combined_same i (from (2 ^ i) f) (from (2 ^ i) g) x (λ m h. same (2 ^ i + m) (omega (arith, h, double))))

pub combined-lt : (i : ℕ) (f : ℕ → ℕ) (x : ℕ) → GivesElements f → x < 65536 → combined i f x < 65536
unfolding combined
combined-lt zero f x fit h = fit 0
combined-lt (suc i) f x fit h =
    xor_lt 16 (combined i f x) (mul (vanishing i x) (combined i (from (2 ^ i) f) x)) (combined-lt i f x fit h)
    (product-lt (vanishing i x) (combined i (from (2 ^ i) f) x) (vanishing-lt i x h) (combined-lt i (from (2 ^ i) f) x (λ m. fit (2 ^ i + m)) h))

-- factors of a product change places
swapped : (a b y : ℕ) → a < 65536 → b < 65536 → y < 65536 → mul a (mul b y) ≡ mul b (mul a y)
swapped a b y ha hb hy = sym (product_assoc a b y ha hb hy) ∙ ap (λ v. mul v y) (product_comm a b ha hb) ∙ product_assoc b a y hb ha hy

-- the coefficients of a sum
pub combined_linear : (i c : ℕ) (f g : ℕ → ℕ) (x : ℕ) → c < 65536 → GivesElements g → x < 65536 → combined i (λ m. bit_xor (f m) (mul c (g m))) x ≡ bit_xor (combined i f x) (mul c (combined i g x))
unfolding combined
combined_linear zero c f g x hc fit h = refl
combined_linear (suc i) c f g x hc fit h =
    ap₂ (λ a b. bit_xor a (mul v b)) (combined_linear i c f g x hc fit h) (combined_linear i c (from (2 ^ i) f) (from (2 ^ i) g) x hc (λ m. fit (2 ^ i + m)) h)
    ∙ ap (bit_xor (bit_xor fl (mul c gl))) ((product_linear_right v).on_xor fh (mul c gh) ∙ ap (bit_xor (mul v fh)) (swapped v c gh hv hc hg))
    ∙ xor_middle fl (mul c gl) (mul v fh) (mul c (mul v gh))
    ∙ ap (bit_xor (bit_xor fl (mul v fh))) (sym ((product_linear_right c).on_xor gl (mul v gh)))
  where
    v : ℕ
    v = vanishing i x

    fl : ℕ
    fl = combined i f x

    fh : ℕ
    fh = combined i (from (2 ^ i) f) x

    gl : ℕ
    gl = combined i g x

    gh : ℕ
    gh = combined i (from (2 ^ i) g) x

    hv : vanishing i x < 65536
    hv = vanishing-lt i x h

    hg : combined i (from (2 ^ i) g) x < 65536
    hg = combined-lt i (from (2 ^ i) g) x (λ m. fit (2 ^ i + m)) h

combined_sum : (i : ℕ) (f g : ℕ → ℕ) (x : ℕ) → combined i (λ m. bit_xor (f m) (g m)) x ≡ bit_xor (combined i f x) (combined i g x)
unfolding combined
combined_sum zero f g x = refl
combined_sum (suc i) f g x =
    let v = vanishing i x in
    let fh = combined i (from (2 ^ i) f) x in
    let gh = combined i (from (2 ^ i) g) x in
    ap₂ (λ a b. bit_xor a (mul v b)) (combined_sum i f g x) (combined_sum i (from (2 ^ i) f) (from (2 ^ i) g) x)
    ∙ ap (bit_xor (bit_xor (combined i f x) (combined i g x))) ((product_linear_right v).on_xor fh gh)
    ∙ xor_middle (combined i f x) (combined i g x) (mul v fh) (mul v gh)

-- The butterfly in this basis: c times the upper half is added to the lower one, and that to the upper one. On the coset
-- where the subspace polynomial is c, the lower half is then the whole; where it is c + 1, the upper half.
pub combined_split : (i c : ℕ) (whole split : ℕ → ℕ) (x : ℕ) → c < 65536 → GivesElements whole → x < 65536
    → ((m : ℕ) → m < 2 ^ i → split m ≡ bit_xor (whole m) (mul c (whole (2 ^ i + m)))) → ((m : ℕ) → m < 2 ^ i → split (2 ^ i + m) ≡ bit_xor (whole (2 ^ i + m)) (split m))
    → combined (suc i) whole x ≡ bit_xor (combined i split x) (mul (bit_xor (vanishing i x) c) (bit_xor (combined i split x) (combined i (from (2 ^ i) split) x)))
unfolding combined
combined_split i c whole split x hc fit h lower upper =
    sym (ap₂ (λ a b. bit_xor a (mul (bit_xor v c) b)) low high
    ∙ ap (bit_xor (bit_xor l (mul c u))) ((product_linear_left u).on_xor v c)
    ∙ xor_assoc l (mul c u) (bit_xor (mul v u) (mul c u))
    ∙ ap (bit_xor l) (ap (bit_xor (mul c u)) (xor_comm (mul v u) (mul c u)) ∙ sym (xor_assoc (mul c u) (mul c u) (mul v u)) ∙ ap (λ w. bit_xor w (mul v u)) (xor_self (mul c u)) ∙ xor_zero_l (mul v u)))
  where
    v : ℕ
    v = vanishing i x

    l : ℕ
    l = combined i whole x

    u : ℕ
    u = combined i (from (2 ^ i) whole) x

    low : combined i split x ≡ bit_xor (combined i whole x) (mul c (combined i (from (2 ^ i) whole) x))
    low = combined_same i split (λ m. bit_xor (whole m) (mul c (whole (2 ^ i + m)))) x lower ∙ combined_linear i c whole (from (2 ^ i) whole) x hc (λ m. fit (2 ^ i + m)) h

    -- the upper half is the sum of the old one and the new lower one, so their sum is the old one
    high : bit_xor (combined i split x) (combined i (from (2 ^ i) split) x) ≡ combined i (from (2 ^ i) whole) x
    high =
        ap (bit_xor (combined i split x))
        (combined_same i (from (2 ^ i) split) (λ m. bit_xor (whole (2 ^ i + m)) (split m)) x upper ∙ combined_sum i (from (2 ^ i) whole) split x)
        ∙ ap (bit_xor (combined i split x)) (xor_comm u (combined i split x))
        ∙ sym (xor_assoc (combined i split x) (combined i split x) u) ∙ ap (λ w. bit_xor w u) (xor_self (combined i split x)) ∙ xor_zero_l u

pub split_runs : (i c start : ℕ) (f g : ℕ → ℕ) → GivesElements f → c < 65536 → IsButterfly (mul c) start (start + 2 ^ i) (2 ^ i) f g → OneRun start (2 ^ suc i) (IsSplit i c) f g
split_runs i c start f g fit hc both = record {
  others = record { below = both.below; above = λ u l. both.above u (omega (arith, double_power i, l)) };
  run = record { divided = λ x hx. combined_split i c (from start f) (from start g) x hc (λ m. fit (start + m)) hx lower upper };
}
  where
    lower : (m : ℕ) → m < 2 ^ i → g (start + m) ≡ bit_xor (f (start + m)) (mul c (f (start + (2 ^ i + m))))
    lower m l = both.lower m l ∙ ap (λ n. bit_xor (f (start + m)) (mul c (f n))) (add_assoc start (2 ^ i) m)

    upper : (m : ℕ) → m < 2 ^ i → g (start + (2 ^ i + m)) ≡ bit_xor (f (start + (2 ^ i + m))) (g (start + m))
    upper m l = ap g (sym (add_assoc start (2 ^ i) m)) ∙ both.upper m l ∙ ap (λ n. bit_xor (f n) (g (start + m))) (add_assoc start (2 ^ i) m)
