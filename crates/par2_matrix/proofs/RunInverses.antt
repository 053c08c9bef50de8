-- Exponents that are close and runs of them, polynomials coefficient by coefficient, and the inverse for a run by Forney's factors.
use Rattle.par2_matrix.proofs.Common.{by_either, All, AllPairs-from_increasing, AreClose, AreSlices, Contains, Contains-get_or, HasRun, IsStrictlyIncreasing, IsTrue, List, [], all_from, ap, arith, cases_eq, cases_lt, drop, eqb, eqb-false, false, false≢true, get_or, get_or-drop, get_or-range_with_len, get_or-take, get_or_default, length, length-drop, length-range_with_len, length-take-le, lt-ltb, ltb, ltb-true, range_with_len, recursion_from_All, refl, subst, suc, sym, take, zero, ℕ, ◌+◌, ◌-◌, ◌<◌, ◌↔◌, ◌∙◌, ◌∷◌, ◌≡◌, ◌≤◌, append_assoc, ◌*◌, ◌^◌, set, ◌++◌, bit_xor, ext_get_or, drop_more, get_or-set_same, get_or-set_other, drop_all, mul, times, times_root, value, plus, with_roots, quotient, length-quotient, quotient_elements, product-zero, product_assoc, product_linear_right, xor_assoc, xor_zero_l, ◌≢◌, ap₂, map, cond, eq-eqb, ne_eqb, length-map, get_or-map, constant, pow, coefficient, list_at, field_sum, ArePoints, power-lt, no_zero_divisor, product_comm, product-one, all_get, all-each, all_at, value-lt, value_times, with_roots_elements, length-with_roots, times_elements, quotient_others, quotient_itself, field_sum_same, field_sum_head, field_sum_one, dot_sum, close_kept, coefficients, IsInverseMatrix, identity, constant-lt, constant-nonzero, constant-injective, field_sum_none, field_sum_scaled, zero-product, length_push, xor_self, Decides-eqb, IsDistinct-from_AllPairs, Lost, AreElements, all-drop, IsSolved, solved, AreFactors, locator}
use Rattle.par2_matrix.proofs.Combinations.{coefficients-lt, combined, each_more, identity-lt, sum_of_row}

-- numbers of slices that rise
pub slices_from : (numbers : List ℕ) → IsStrictlyIncreasing numbers → All (λ k. k < 32768) numbers → AreSlices numbers
slices_from numbers rise below = record { rise = rise; below = recursion_from_All (λ k. k < 32768) numbers below }

pub slices_of : (lost : Lost) → AreSlices lost.numbers.now
slices_of lost = record { rise = lost.rise; below = all_from (λ k. k < 32768) 0 lost.numbers.now (λ i _. lost.below i) }

-- numbers that rise do so by at least one
rises_by : (xs : List ℕ) → IsStrictlyIncreasing xs → (i k : ℕ) → i + k < length xs → get_or xs i 0 + k ≤ get_or xs (i + k) 0
rises_by xs rise i zero h = grind arith
rises_by xs rise i (suc k) h = grind (arith, rises_by xs rise i k (omega (arith, h)), rise (i + k) (omega (arith, h)))

pub rises_between : (xs : List ℕ) → IsStrictlyIncreasing xs → (i j : ℕ) → i ≤ j → j < length xs → get_or xs i 0 + (j - i) ≤ get_or xs j 0
rises_between xs rise i j low h = grind (arith, rises_by xs rise i (j - i) (omega (arith, low, h)))

-- equal items are one item
pub rises_differ : (xs : List ℕ) → IsStrictlyIncreasing xs → (i j : ℕ) → i < length xs → j < length xs → get_or xs i 0 ≡ get_or xs j 0 → i ≡ j
rises_differ xs rise i j hi hj same = grind (arith, cases_lt, AllPairs-from_increasing xs rise i j 0, AllPairs-from_increasing xs rise j i 0)

-- a contained number is at some index
pub placed : (xs : List ℕ) (x : ℕ) → Contains xs x → (i : ℕ) × (i < length xs) × (get_or xs i 0 ≡ x)
placed xs x c = (c.0, c.1, get_or_default xs c.0 0 x c.1 ∙ c.2)

-- exponents are close if the last and the first are
pub close_from : (xs : List ℕ) (n : ℕ) → IsStrictlyIncreasing xs → 0 < length xs → get_or xs (length xs - 1) 0 - get_or xs 0 0 < n → AreClose n xs
close_from xs n rise some near e f first second =
    let i = placed xs e first in
    let j = placed xs f second in
    omega (arith, i.2, j.2, rises_between xs rise 0 i.0 (omega arith) i.1, rises_between xs rise j.0 (length xs - 1) (omega (arith, j.1)) (omega (arith, some)), near)

pub close_ends : (xs : List ℕ) (n : ℕ) → 0 < length xs → AreClose n xs → get_or xs (length xs - 1) 0 < get_or xs 0 0 + n
close_ends xs n some close =
    close (get_or xs 0 0) (get_or xs (length xs - 1) 0) (Contains-get_or xs 0 0 some) (Contains-get_or xs (length xs - 1) 0 (omega (arith, some)))

pub rises_to_the_end : (xs : List ℕ) → IsStrictlyIncreasing xs → 0 < length xs → get_or xs 0 0 ≤ get_or xs (length xs - 1) 0
rises_to_the_end xs rise some = let by = rises_between xs rise 0 (length xs - 1) (omega arith) (omega (arith, some)) in omega (arith, by)

pub not_empty : (n : ℕ) → eqb n 0 ≡ false → 0 < n
not_empty n e = let other = eqb-false n 0 e in omega (arith, other)

pub close-iff : (xs : List ℕ) (n : ℕ) → IsStrictlyIncreasing xs → 0 < length xs → IsTrue (ltb (get_or xs (length xs - 1) 0 - get_or xs 0 0) n) ↔ AreClose n xs
close-iff xs n rise some = (
  λ near. close_from xs n rise some (ltb-true _ _ near),
  λ close. let ends = close_ends xs n some close in let order = rises_to_the_end xs rise some in lt-ltb _ _ (omega (arith, ends, order)),
)

-- ---- n of the numbers, from index i on

abbrev pub part : ℕ → ℕ → List ℕ → List ℕ
part i n xs = take n (drop i xs)

length-part : (xs : List ℕ) (i n : ℕ) → i + n ≤ length xs → length (part i n xs) ≡ n
length-part xs i n h = length-take-le n (drop i xs) (omega (arith, h, length-drop i xs))

part_at : (xs : List ℕ) (i n k : ℕ) → k < n → get_or (part i n xs) k 0 ≡ get_or xs (i + k) 0
part_at xs i n k h = get_or-take n (drop i xs) k 0 h ∙ get_or-drop i xs k 0

pub part_rises : (xs : List ℕ) (i n : ℕ) → IsStrictlyIncreasing xs → i + n ≤ length xs → IsStrictlyIncreasing (part i n xs)
part_rises xs i n rise h k within =
    grind (arith, length-part xs i n h, part_at xs i n k, part_at xs i n (k + 1), rises_between xs rise (i + k) (i + (k + 1)))

pub take_rises : (xs : List ℕ) (n : ℕ) → IsStrictlyIncreasing xs → n ≤ length xs → IsStrictlyIncreasing (take n xs)
take_rises xs n rise h = subst (λ ys. IsStrictlyIncreasing (take n ys)) (drop_none xs) (part_rises xs 0 n rise (omega (arith, h)))
  where
    drop_none : (ys : List ℕ) → drop 0 ys ≡ ys
    drop_none [] = refl
    drop_none (y ∷ ys) = refl

-- n numbers that are close are a run
pub close_run : (xs : List ℕ) (i n : ℕ) → IsStrictlyIncreasing xs → i + n ≤ length xs → AreClose n (part i n xs) → HasRun (get_or xs i 0) n xs
close_run xs i n rise h close k low =
    let long = length-part xs i n h in
    let ends = close_ends (part i n xs) n (omega (arith, long, low)) close in
    let at : get_or xs (i + k) 0 ≡ get_or xs i 0 + k = grind (arith, long, ends, part_at xs i n 0 (omega (arith, low)), part_at xs i n (n - 1) (omega (arith, low)), rises_between xs rise i (i + k) (omega arith) (omega (arith, low, h)), rises_between xs rise (i + k) (i + (n - 1)) (omega (arith, low)) (omega (arith, low, h))) in
    subst (Contains xs) at (Contains-get_or xs (i + k) 0 (omega (arith, low, h)))

-- ---- a run has consecutive indices

place_after : (xs : List ℕ) → IsStrictlyIncreasing xs → (i j : ℕ) → i < length xs → get_or xs i 0 < get_or xs j 0 → i < j
place_after xs rise i j h less = grind (arith, cases_lt, rises_between xs rise j i)

-- the k-th exponent of a run is at least k indices after its first
run_place : (xs : List ℕ) (f n i : ℕ) → IsStrictlyIncreasing xs → HasRun f n xs → i < length xs → get_or xs i 0 ≡ f
    → (k : ℕ) → k < n → (j : ℕ) × (j < length xs) × (get_or xs j 0 ≡ f + k) × (i + k ≤ j)
run_place xs f n i rise run h is zero low = (i, h, omega (arith, is), omega arith)
run_place xs f n i rise run h is (suc k) low =
    let before = run_place xs f n i rise run h is k (omega (arith, low)) in
    let here = placed xs (f + suc k) (run (suc k) low) in
    let after = place_after xs rise before.0 here.0 before.1 (omega (arith, before.2, here.2)) in
    (here.0, here.1, here.2, omega (arith, after, before.3))

pub run_close : (xs : List ℕ) (f n : ℕ) → IsStrictlyIncreasing xs → HasRun f n xs → (i : ℕ) × (i + n ≤ length xs) × AreClose n (part i n xs)
run_close xs f zero rise run =
    (0, omega arith, λ e g first second. let long = length-part xs 0 0 (omega arith) in let low = first.1 in absurd (omega (arith, long, low)))
run_close xs f (suc m) rise run =
    let f_is : f + 0 ≡ f = omega arith in
    let start = placed xs f (subst (Contains xs) f_is (run 0 (omega arith))) in
    let i = start.0 in
    let last = run_place xs f (suc m) i rise run start.1 start.2 m (omega arith) in
    let fits : i + suc m ≤ length xs = omega (arith, last.1, last.3) in
    let long = length-part xs i (suc m) fits in (
      i,
      fits,
      λ e g first second.
          let a = placed (part i (suc m) xs) e first in
          let b = placed (part i (suc m) xs) g second in
          let least = rises_between xs rise i (i + a.0) (omega arith) (omega (arith, long, a.1, fits)) in
          let most = rises_between xs rise (i + b.0) last.0 (omega (arith, long, b.1, last.3)) last.1 in
          omega (arith, a.2, b.2, part_at xs i (suc m) a.0 (omega (arith, long, a.1)), part_at xs i (suc m) b.0 (omega (arith, long, b.1)), least, most, start.2, last.2),
    )

-- ---- the parts that end before an index

-- no part of n numbers that ends before the index is close
abbrev pub NoneClose : List ℕ → ℕ → ℕ → Type 0
NoneClose xs n end = (j : ℕ) → n ≤ j → j < end → AreClose n (part (j - n) n xs) → ⊥

pub part_is : (end n : ℕ) → n ≤ end → end - (end - n) ≡ n
part_is end n h = omega (arith, h)

pub one_less : (xs : List ℕ) (n end : ℕ) → NoneClose xs n end → (AreClose n (part (end - n) n xs) → ⊥) → NoneClose xs n (end + 1)
one_less xs n end before here j low high = by_either (cases_lt j end)
    (λ less. before j low less)
    (λ most. subst (λ m. AreClose n (part (m - n) n xs) → ⊥) (let e : end ≡ j = omega (arith, high, most) in e) here)

pub no_run : (xs : List ℕ) (n end : ℕ) → IsStrictlyIncreasing xs → NoneClose xs n end → length xs < end → IsTrue false ↔ ((f : ℕ) × HasRun f n xs)
no_run xs n end rise none past = (
  λ h. absurd (false≢true h),
  λ r.
      let found = run_close xs r.0 n rise r.1 in
      let at : found.0 + n - n ≡ found.0 = omega arith in
      absurd (none (found.0 + n) (omega arith) (omega (arith, found.1, past)) (subst (λ m. AreClose n (part m n xs)) (sym at) found.2)),
)

-- ---- a run as a list

pub range_has : (f n j : ℕ) → j < n → Contains (range_with_len f n) (f + j)
range_has f n j low = subst (Contains (range_with_len f n)) (get_or-range_with_len f n j 0 low) (Contains-get_or (range_with_len f n) j 0 (omega (arith, length-range_with_len f n, low)))

in_run : (f n e : ℕ) → Contains (range_with_len f n) e → (f ≤ e) × (e < f + n)
in_run f n e among =
    let i = placed (range_with_len f n) e among in
    let low : i.0 < n = omega (arith, length-range_with_len f n, i.1) in
    let is = get_or-range_with_len f n i.0 0 low in
    (omega (arith, is, i.2), omega (arith, is, i.2, low))

pub close_range : (f n : ℕ) → AreClose n (range_with_len f n)
close_range f n e g first second = let a = in_run f n e first in let b = in_run f n g second in omega (arith, a.0, b.1)

-- Coefficients of products and quotients, one after the other.

-- one more coefficient of the product with z - c
pub root_step : (c before t : ℕ) (p done : List ℕ) → t < length p
    → done ++ plus (times c (drop t p)) (before ∷ drop t p) ≡ (done ++ bit_xor (mul c (get_or p t 0)) before ∷ []) ++ plus (times c (drop (t + 1) p)) (get_or p t 0 ∷ drop (t + 1) p)
unfolding plus
root_step c before t p done h =
    ap (λ q. done ++ plus (times c q) (before ∷ q)) (drop_more p t 0 h)
    ∙ sym (append_assoc done (bit_xor (mul c (get_or p t 0)) before ∷ []) (plus (times c (drop (t + 1) p)) (get_or p t 0 ∷ drop (t + 1) p)))

pub root_end : (c before t : ℕ) (p done : List ℕ) → length p ≤ t → done ++ plus (times c (drop t p)) (before ∷ drop t p) ≡ done ++ before ∷ []
unfolding plus
root_end c before t p done h = ap (λ q. done ++ plus (times c q) (before ∷ q)) (drop_all t p h)

-- a coefficient of the quotient is the value of the coefficients after its place
pub quotient_at : (c : ℕ) (p : List ℕ) (i : ℕ) → get_or (quotient c p) i 0 ≡ value (drop (suc i) p) c
unfolding quotient value
quotient_at c [] i = refl
quotient_at c (a ∷ []) zero = refl
quotient_at c (a ∷ []) (suc i) = refl
quotient_at c (a ∷ b ∷ p) zero = refl
quotient_at c (a ∷ b ∷ p) (suc i) = quotient_at c (b ∷ p) i

pub quotient_whole : (b c n : ℕ) (p q : List ℕ) → n ≡ length p - 1 → length q ≡ n → ((i : ℕ) → 0 ≤ i → i < n → get_or q i 0 ≡ mul b (value (drop (i + 1) p) c)) → q ≡ times b (quotient c p)
quotient_whole b c n p q is count each =
    let long = length-quotient c p in
    ext_get_or 0 q (times b (quotient c p)) (count ∙ is ∙ sym (length-map (quotient c p) (mul b) ∙ long)) (λ i h.
    let next : i + 1 ≡ suc i = omega arith in
    each i (omega arith) (omega (arith, h, count)) ∙ ap (mul b) (ap (λ m. value (drop m p) c) next ∙ sym (quotient_at c p i)) ∙ sym (get_or-map (mul b) (quotient c p) i 0 0 (omega (arith, h, count, is, long))))

-- one step of Horner's rule
pub value_from : (p : List ℕ) (z t : ℕ) → t < length p → value (drop t p) z ≡ bit_xor (get_or p t 0) (mul z (value (drop (t + 1) p) z))
unfolding value
value_from p z t h = ap (λ xs. value xs z) (drop_more p t 0 h)

-- the value of the quotient at c, from that of the coefficients after the first two: two steps of Horner's rule for the quotient's coefficients cancel
pub derivative_step : (c a b : ℕ) (p : List ℕ) → AreElements p → c < 2 ^ 16 → value (quotient c (a ∷ b ∷ p)) c ≡ bit_xor b (mul (mul c c) (value (quotient c p) c))
unfolding quotient value
derivative_step c a b [] are hc =
    xor_assoc b (mul c 0) (mul c 0) ∙ ap (bit_xor b) (xor_self (mul c 0) ∙ sym (product-zero (mul c c)))
derivative_step c a b (d ∷ p) are hc =
    let v = value (d ∷ p) c in
    let q = value (quotient c (d ∷ p)) c in
    let small : q < 2 ^ 16 = value-lt (quotient c (d ∷ p)) c (quotient_elements c (d ∷ p) hc are) hc in
    ap (bit_xor (bit_xor b (mul c v))) ((product_linear_right c).on_xor v (mul c q) ∙ ap (bit_xor (mul c v)) (sym (product_assoc c c q hc hc small)))
    ∙ xor_assoc b (mul c v) (bit_xor (mul c v) (mul (mul c c) q)) ∙ ap (bit_xor b) (sym (xor_assoc (mul c v) (mul c v) (mul (mul c c) q)) ∙ ap (λ w. bit_xor w (mul (mul c c) q)) (xor_self (mul c v)) ∙ xor_zero_l (mul (mul c c) q))

pub derivative_from : (c k : ℕ) (p : List ℕ) → AreElements p → c < 2 ^ 16 → 2 * k + 1 < length p
    → value (quotient c (drop (2 * k) p)) c ≡ bit_xor (get_or p (2 * k + 1) 0) (mul (mul c c) (value (quotient c (drop (2 * (k + 1)) p)) c))
derivative_from c k p are hc low =
    let rest : List ℕ = drop (2 * (k + 1)) p in
    let place : 2 * k + 1 + 1 ≡ 2 * (k + 1) = omega arith in
    ap (λ xs. value (quotient c xs) c) (drop_more p (2 * k) 0 (omega (arith, low)) ∙ ap (λ xs. get_or p (2 * k) 0 ∷ xs) (drop_more p (2 * k + 1) 0 low ∙ ap (λ n. get_or p (2 * k + 1) 0 ∷ drop n p) place))
    ∙ derivative_step c (get_or p (2 * k) 0) (get_or p (2 * k + 1) 0) rest (all-drop (λ x. x < 2 ^ 16) (2 * (k + 1)) p are) hc

-- fewer than two coefficients have no derivative
pub derivative_end : (c : ℕ) (p : List ℕ) → length p < 2 → value (quotient c p) c ≡ 0
unfolding quotient value
derivative_end c [] short = refl
derivative_end c (a ∷ []) short = refl
derivative_end c (a ∷ b ∷ p) short = absurd (omega (arith, short))

pub with_roots_from : (points : List ℕ) (i : ℕ) → i < length points → with_roots (drop i points) ≡ times_root (get_or points i 0) (with_roots (drop (i + 1) points))
unfolding with_roots
with_roots_from points i h = ap with_roots (drop_more points i 0 h)

pub value_at_end : (p : List ℕ) (z n : ℕ) → length p ≤ n → value (drop n p) z ≡ 0
unfolding value
value_at_end [] z zero h = refl
value_at_end [] z (suc n) h = refl
value_at_end (a ∷ p) z zero h = absurd (omega (arith, h))
value_at_end (a ∷ p) z (suc n) h = value_at_end p z n (omega (arith, h))

pub with_roots_at_end : (points : List ℕ) → with_roots (drop (length points) points) ≡ 1 ∷ []
unfolding with_roots
with_roots_at_end [] = refl
with_roots_at_end (c ∷ points) = with_roots_at_end points

-- one more coefficient of a quotient, before the others
pub quotient_step : (F : ℕ → ℕ) (q : List ℕ) (t n v : ℕ) → 0 < t → t ≤ n → length q ≡ n → v ≡ F (t - 1) → ((i : ℕ) → t ≤ i → i < n → get_or q i 0 ≡ F i)
    → (i : ℕ) → t - 1 ≤ i → i < n → get_or (set q (t - 1) v) i 0 ≡ F i
quotient_step F q t n v some within count is each i low high = grind (arith, cases_eq i (t - 1), each i, get_or-set_same, get_or-set_other)

-- The scaled quotients for the constants of the lost slices are the inverse for a run.

-- ---- the sum over a run is a value

-- the sum of the products of a row and slice k's coefficients at the exponents from f on
abbrev pub run_sum : ℕ → List ℕ → ℕ → ℕ
run_sum f row k = field_sum (length row) (λ t. mul (get_or row t 0) (coefficient (f + t) k))

pub run_sum_is : (row : List ℕ) (f k : ℕ) → AreElements row → run_sum f row k ≡ mul (pow (constant k) f) (value row (constant k))
unfolding field_sum value coefficient pow
run_sum_is [] f k h = sym (product-zero (pow (constant k) f))
run_sum_is (a ∷ row) f k h =
    let c = constant k in
    let hc = constant-lt k in
    let power = pow c f in
    let hp = power-lt c f hc in
    let v = value row c in
    let first : f + 0 ≡ f = omega arith in
    let next : (t : ℕ) → f + suc t ≡ suc f + t = λ t. omega arith in
    field_sum_head (length row) (λ t. mul (get_or (a ∷ row) t 0) (coefficient (f + t) k))
    ∙ ap₂ bit_xor
    (ap (λ n. mul a (pow c n)) first ∙ product_comm a power h.0 hp)
    (field_sum_same (length row) (λ t. mul (get_or row t 0) (coefficient (f + suc t) k)) (λ t. mul (get_or row t 0) (coefficient (suc f + t) k)) (λ t _. ap (λ n. mul (get_or row t 0) (coefficient n k)) (next t))
    ∙ run_sum_is row (suc f) k h.1
    ∙ ap (λ x. mul x v) (product_comm c power hc hp) ∙ product_assoc power c v hp hc (value-lt row c h.1 hc))
    ∙ sym ((product_linear_right power).on_xor a (mul c v))

-- ---- the constants of lost slices

-- the coefficients at exponent 1 are the constants
pub first_powers : (slices : List ℕ) → coefficients slices 1 ≡ map constant slices
unfolding coefficient pow
first_powers [] = refl
first_powers (k ∷ slices) = ap₂ (λ (c : ℕ) cs. c ∷ cs) (product-one (constant k) (constant-lt k)) (first_powers slices)

pub constants-lt : (ks : List ℕ) → AreElements (map constant ks)
constants-lt ks = all-each (λ c. c < 2 ^ 16) constant constant-lt ks

pub constant_at : (ks : List ℕ) (j : ℕ) → j < length ks → get_or (map constant ks) j 0 ≡ constant (get_or ks j 0)
constant_at ks j h = get_or-map constant ks j 0 0 h

pub among_constants : (ks : List ℕ) (j : ℕ) → j < length ks → Contains (map constant ks) (constant (get_or ks j 0))
among_constants ks j h =
    subst (Contains (map constant ks)) (constant_at ks j h) (Contains-get_or (map constant ks) j 0 (let long = length-map ks constant in omega (arith, long, h)))

rising_differ : (ks : List ℕ) → AreSlices ks → (i j : ℕ) → i < j → j < length ks → constant (get_or ks i 0) ≡ constant (get_or ks j 0) → ⊥
rising_differ ks are i j h low =
    constant-injective (get_or ks i 0) (get_or ks j 0) (AllPairs-from_increasing ks are.rise i j 0 h low) (all_get (λ k. k < 32768) ks j 0 low are.below)

pub are_points : (ks : List ℕ) → AreSlices ks → ArePoints (map constant ks)
are_points ks are = record {
  elements = constants-lt ks;
  distinct = IsDistinct-from_AllPairs Decides-eqb (map constant ks) (λ i j d low within.
      let long = length-map ks constant in
      let second : j < length ks = omega (arith, long, within) in
      let first : i < length ks = omega (arith, low, second) in
      λ same. rising_differ ks are i j low second (sym (get_or-map constant ks i 0 d first) ∙ same ∙ get_or-map constant ks j 0 d second));
}

power-nonzero : (a e : ℕ) → a ≢ 0 → a < 2 ^ 16 → pow a e ≢ 0
unfolding pow
power-nonzero a zero h small e = omega (arith, e)
power-nonzero a (suc n) h small e = power-nonzero a n h small (no_zero_divisor a (pow a n) (omega (arith, h)) small (power-lt a n small) e)

-- ---- the identity

pub sum_of_column : (n k : ℕ) (f : ℕ → ℕ) → k < n → ((i : ℕ) → f i < 65536) → field_sum n (λ i. mul (f i) (identity i k)) ≡ f k
sum_of_column n k f low are =
    field_sum_one n k (λ i. mul (f i) (identity i k)) low (λ i h other. ap (mul (f i)) (ap (λ b. cond b 1 0) (ne_eqb i k other)) ∙ product-zero (f i))
    ∙ ap (mul (f k)) (ap (λ b. cond b 1 0) (eq-eqb k k refl)) ∙ product-one (f k) (are k)

pub identity_moved : (f j k : ℕ) → identity (f + j) (f + k) ≡ identity j k
identity_moved f j k = grind (arith, cases_eq j k, eq-eqb, ne_eqb)

-- ---- the rows

-- the value at a point of the quotient by that point isn't 0
pub at_itself : (ks : List ℕ) (f j : ℕ) → AreSlices ks → j < length ks → let c = constant (get_or ks j 0) in mul (pow c f) (value (quotient c (locator ks)) c) ≢ 0
at_itself ks f j are h here =
    let k = get_or ks j 0 in
    let c = constant k in
    let hc = constant-lt k in
    let points = map constant ks in
    let power = power-nonzero c f (constant-nonzero k (all_get (λ i. i < 32768) ks j 0 h are.below)) hc in
    quotient_itself points c (are_points ks are) (among_constants ks j h)
    (no_zero_divisor (pow c f) (value (quotient c (with_roots points)) c) (omega (arith, power)) (power-lt c f hc)
    (value-lt (quotient c (with_roots points)) c (quotient_elements c (with_roots points) hc (with_roots_elements points (constants-lt ks))) hc) here)

row_elements : (c factor : ℕ) (points : List ℕ) → c < 2 ^ 16 → factor < 2 ^ 16 → AreElements points → AreElements (times factor (quotient c (with_roots points)))
row_elements c factor points hc small h = times_elements factor (quotient c (with_roots points)) small (quotient_elements c (with_roots points) hc (with_roots_elements points h))

length-row : (c factor : ℕ) (points : List ℕ) → length (times factor (quotient c (with_roots points))) ≡ length points
length-row c factor points = omega (arith, length-map (quotient c (with_roots points)) (mul factor), length-quotient c (with_roots points), length-with_roots points)

-- the quotients times Forney's factors are the inverse for a run
pub is_inverse : (ks : List ℕ) (f : ℕ) (factors : List ℕ) (rows : List (List ℕ)) → AreSlices ks → AreFactors f ks factors (length ks) → length rows ≡ length ks
    → ((j : ℕ) → j < length ks → list_at rows j ≡ times (get_or factors j 0) (quotient (constant (get_or ks j 0)) (locator ks))) → IsInverseMatrix ks (range_with_len f (length ks)) rows
is_inverse ks f factors rows are given_factors count row =
    let n : ℕ = length ks in
    let points : List ℕ = map constant ks in
    let a : ℕ → ℕ → ℕ = λ j i. get_or (coefficients ks (f + j)) i 0 in
    let x : ℕ → ℕ → ℕ = λ i k. get_or (list_at rows i) k 0 in
    let point : ℕ → ℕ = λ j. constant (get_or ks j 0) in
    let factor : ℕ → ℕ = λ j. get_or factors j 0 in
    let elements : (j : ℕ) → j < length ks → AreElements (list_at rows j) = λ j h. subst AreElements (sym (row j h)) (row_elements (point j) (factor j) points (constant-lt (get_or ks j 0)) (given_factors.small j h) (constants-lt ks)) in
    let long : (j : ℕ) → j < length ks → length (list_at rows j) ≡ length ks = λ j h. ap length (row j h) ∙ length-row (point j) (factor j) points ∙ length-map ks constant in
    -- the value of a row at a point
    let row_value : (i j : ℕ) → j < length ks → value (list_at rows j) (point i) ≡ mul (factor j) (value (quotient (point j) (with_roots points)) (point i)) = λ i j hj.
    ap (λ p. value p (point i)) (row j hj)
    ∙ value_times (factor j) (quotient (point j) (with_roots points)) (point i) (given_factors.small j hj) (quotient_elements (point j) (with_roots points) (constant-lt (get_or ks j 0)) (with_roots_elements points (constants-lt ks))) (constant-lt (get_or ks i 0)) in
    let sum_is : (i j : ℕ) → i < length ks → j < length ks → run_sum f (list_at rows j) (get_or ks i 0) ≡ mul (pow (point i) f) (value (list_at rows j) (point i)) = λ i j hi hj. run_sum_is (list_at rows j) f (get_or ks i 0) (elements j hj) in
    let is_one : (j : ℕ) → j < length ks → mul (pow (point j) f) (value (list_at rows j) (point j)) ≡ 1 = λ j h.
    let c = point j in
    let power = pow c f in
    let hp = power-lt c f (constant-lt (get_or ks j 0)) in
    let v = value (quotient c (with_roots points)) c in
    let hv = value-lt (quotient c (with_roots points)) c (quotient_elements c (with_roots points) (constant-lt (get_or ks j 0)) (with_roots_elements points (constants-lt ks))) (constant-lt (get_or ks j 0)) in
    let small = given_factors.small j h in
    ap (mul power) (row_value j j h ∙ product_comm (factor j) v small hv) ∙ sym (product_assoc power v (factor j) hp hv small) ∙ given_factors.each j h in
    let none : (i j : ℕ) → i < length ks → j < length ks → i ≢ j → value (list_at rows j) (point i) ≡ 0 = λ i j hi hj other.
    row_value i j hj
    ∙ ap (mul (factor j)) (quotient_others points (point j) (point i) (constants-lt ks) (among_constants ks j hj) (among_constants ks i hi) (λ same. by_either (cases_lt i j)
    (λ low. rising_differ ks are i j low hj same)
    (λ high. rising_differ ks are j i (omega (arith, high, other)) hi (sym same))))
    ∙ product-zero (factor j) in
    -- the product of the inverse and the matrix
    let left : (i k : ℕ) → i < n → k < n → field_sum n (λ t. mul (x i t) (a t k)) ≡ identity i k = λ i k hi hk.
    field_sum_same n (λ t. mul (x i t) (a t k)) (λ t. mul (x i t) (coefficient (f + t) (get_or ks k 0))) (λ t low. ap (mul (x i t)) (get_or-map (coefficient (f + t)) ks k 0 0 hk))
    ∙ ap (λ m. field_sum m (λ t. mul (x i t) (coefficient (f + t) (get_or ks k 0)))) (sym (long i hi))
    ∙ sum_is k i hk hi
    ∙ (by_either (cases_eq i k)
    (λ same. subst (λ m. mul (pow (point m) f) (value (list_at rows i) (point m)) ≡ 1) same (is_one i hi) ∙ sym (ap (λ b. cond b 1 0) (eq-eqb i k same)))
    (λ other.
    ap (mul (pow (point k) f)) (none k i hk hi (λ e. other (sym e))) ∙ product-zero (pow (point k) f)
    ∙ sym (ap (λ b. cond b 1 0) (ne_eqb i k other)))) in
    -- for some vector exponent k of the run gives 1 and the others give 0
    let found : (k : ℕ) → IsSolved ks (range_with_len f n) (λ e. identity e (f + k)) (f + n) = λ k. solved ks (range_with_len f n) (λ e. identity e (f + k)) (λ e. identity-lt e (f + k)) (f + n) in
    let y : ℕ → ℕ → ℕ = λ k i. get_or (found k).vector i 0 in
    let given : (j k : ℕ) → j < n → field_sum n (λ i. mul (a j i) (y k i)) ≡ identity j k = λ j k hj.
    sym (dot_sum n (coefficients ks (f + j)) (found k).vector (let size = length-map ks (coefficient (f + j)) in omega (arith, size)))
    ∙ (found k).gives (f + j) (omega (arith, hj)) (subst (λ es. Contains es (f + j)) (sym (close_kept ks (range_with_len f n) are (close_range f n))) (range_has f n j hj))
    ∙ identity_moved f j k in
    let x-lt : (i t : ℕ) → i < n → x i t < 65536 = λ i t hi. all_at (λ z. z < 65536) 0 (omega arith) (list_at rows i) (elements i hi) t in
    let y-lt : (k m : ℕ) → y k m < 65536 = λ k m. all_at (λ z. z < 65536) 0 (omega arith) (found k).vector (found k).is_vector.1 m in
    -- that vector is column k of the inverse
    let is_given : (i k : ℕ) → i < n → k < n → x i k ≡ y k i = λ i k hi hk.
    sym (sum_of_column n k (x i) hk (λ t. x-lt i t hi))
    ∙ field_sum_same n (λ t. mul (x i t) (identity t k)) (λ t. mul (x i t) (field_sum n (λ m. mul (a t m) (y k m)))) (λ t ht. ap (mul (x i t)) (sym (given t k ht)))
    ∙ combined n n (x i) a (y k) (λ t. x-lt i t hi) (λ t _. coefficients-lt ks (f + t)) (y-lt k)
    ∙ field_sum_same n (λ m. mul (field_sum n (λ t. mul (x i t) (a t m))) (y k m)) (λ m. mul (identity i m) (y k m)) (λ m hm. ap (λ z. mul z (y k m)) (left i m hi hm))
    ∙ sum_of_row n i (y k) hi (y-lt k) in
    record {
      square = length-range_with_len f n;
      count = count;
      vectors = λ i h. (long i h, elements i h);
      product = λ j k hj hk.
          ap (λ e. field_sum n (λ i. mul (get_or (coefficients ks e) i 0) (get_or (list_at rows i) k 0))) (get_or-range_with_len f n j 0 hj)
          ∙ field_sum_same n (λ i. mul (a j i) (x i k)) (λ i. mul (a j i) (y k i)) (λ i hi. ap (mul (a j i)) (is_given i k hi hk))
          ∙ given j k hj;
    }

-- ---- the factors, and values as sums

-- the value by Horner's rule is the sum of the coefficients, each times its power
pub value_is_sum : (z : ℕ) (xs : List ℕ) (m : ℕ) → AreElements xs → z < 2 ^ 16 → length xs ≤ m → value xs z ≡ field_sum m (λ t. mul (get_or xs t 0) (pow z t))
unfolding value pow
value_is_sum z [] m h hz fits = sym (field_sum_none m (λ t. mul (get_or [] t 0) (pow z t)) (λ t _. zero-product (pow z t)))
value_is_sum z (c ∷ xs) zero h hz fits = absurd (omega (arith, fits))
value_is_sum z (c ∷ xs) (suc m) h hz fits =
    let step : (a p : ℕ) → a < 65536 → p < 65536 → mul z (mul a p) ≡ mul a (mul z p) = λ a p ha hp. sym (product_assoc z a p hz ha hp) ∙ ap (λ v. mul v p) (product_comm z a hz ha) ∙ product_assoc a z p ha hz hp in
    ap₂ bit_xor (sym (product-one c h.0))
    (ap (mul z) (value_is_sum z xs m h.1 hz (omega (arith, fits)))
    ∙ sym (field_sum_scaled m z (λ t. mul (get_or xs t 0) (pow z t)))
    ∙ field_sum_same m (λ t. mul z (mul (get_or xs t 0) (pow z t))) (λ t. mul (get_or xs t 0) (mul z (pow z t))) (λ t _. step (get_or xs t 0) (pow z t) (all_at (λ x. x < 65536) 0 (omega arith) xs h.1 t) (power-lt z t hz)))
    ∙ sym (field_sum_head m (λ t. mul (get_or (c ∷ xs) t 0) (pow z t)))

-- a locator's sequence has as many elements as slices are lost
pub located_wide : (ks : List ℕ) → length (drop 1 (with_roots (map constant ks))) ≡ length ks
located_wide ks = omega (arith, length-map ks constant, length-with_roots (map constant ks), length-drop 1 (with_roots (map constant ks)))

-- the value that a factor inverts, by the points and the derivatives
pub factor_is : (ks : List ℕ) (f j : ℕ) (points p derivatives : List ℕ) → points ≡ map constant ks → p ≡ locator ks → ((i : ℕ) → i < length points → let c = get_or points i 0 in get_or derivatives i 0 ≡ value (quotient c p) c) → j < length points
    → let c = constant (get_or ks j 0) in mul (pow (get_or points j 0) f) (get_or derivatives j 0) ≡ mul (pow c f) (value (quotient c (locator ks)) c)
factor_is ks f j points p derivatives is p_is each low =
    let many = ap length is ∙ length-map ks constant in
    let point : get_or points j 0 ≡ constant (get_or ks j 0) = ap (λ xs. get_or xs j 0) is ∙ constant_at ks j (omega (arith, low, many)) in
    ap₂ mul (ap (λ c. pow c f) point) (each j low ∙ ap₂ (λ c q. value (quotient c q) c) point p_is)

-- one factor more
pub more_factors : (f : ℕ) (ks factors new : List ℕ) (n b : ℕ) → AreFactors f ks factors n → new ≡ factors ++ b ∷ [] → b < 2 ^ 16 → (let c = constant (get_or ks n 0) in mul (mul (pow c f) (value (quotient c (locator ks)) c)) b ≡ 1) → AreFactors f ks new (n + 1)
more_factors f ks factors new n b before is small inverse =
    let value_at : ℕ → ℕ = λ j. let c = constant (get_or ks j 0) in mul (pow c f) (value (quotient c (locator ks)) c) in
    subst (λ xs. AreFactors f ks xs (n + 1)) (sym is) (record {
      count = length_push factors b ∙ ap (λ m. m + 1) before.count;
      small = each_more (λ j x. x < 2 ^ 16) 0 factors b n before.count before.small small;
      each = each_more (λ j x. mul (value_at j) x ≡ 1) 0 factors b n before.count before.each inverse;
    })
