-- Chirps, and sums of products with them.
use Rattle.par2_transform.proofs.Common.{ℕ, zero, suc, ◌+◌, ◌*◌, ◌^◌, ◌<◌, ◌≤◌, ◌≡◌, refl, sym, ap, ◌∙◌, arith, mul_comm, mul_assoc, mul-add, add_comm, mul-zero, add-zero, mul, pow, field_sum, GivesElements, power-lt, power-add, no_zero_divisor, product-lt, product_comm, product-one, product_assoc, product_linear_left, power_inverse, field_sum_same, field_sum_scaled, point, value, AreWeights, triangle, chirp, chirp_inverse, ◌-◌, ◌/◌, ◌%◌, power-65535, power-mul, one-power, ap₂, subst, bit_xor, Bool, true, false, cond, List, ◌∷◌, length, get_or, inl, inr, add-mul, zero-mul, one-mul, cases_lt, cases_eq, cases_Bool, xor_zero_r, filter, is_coprime, constant_powers, product-zero, field_sum_xor, field_sum_none, AreWordsOfFirst, coprimes_below, word_at_power, constant, coefficient, class_sum_at, Cut, Reaches, coefficient_of, window_value, gathered, HasWeights, from_gathered, [], ◌++◌, length-append, if◌then◌else◌, get_or_append_left, get_or_at, get_or_past, get_or_default, word, list_at, words_at, AreNumbers, length-map, range_with_len, length-constant_powers}
use Rattle.par2_transform.proofs.Subspaces.{point-lt, field_sum_swap, field_sum_linear, field_sum_join}
use Rattle.par2_transform.proofs.Additions.{zero_either_way}

triangle-add : (m e : ℕ) → triangle (m + e) ≡ triangle m + triangle e + m * e
unfolding triangle
triangle-add m zero = ap triangle (add-zero m) ∙ (let z : m * 0 ≡ 0 = mul-zero m in let r : triangle m ≡ triangle m + 0 + m * 0 = omega arith in r)
triangle-add m (suc e) =
    let last : m + suc e ≡ suc (m + e) = omega arith in
    let so_far : triangle (m + e) ≡ triangle m + triangle e + m * e = triangle-add m e in
    let more : m * suc e ≡ m * e + m = ap (λ n. m * n) (let s : suc e ≡ e + 1 = omega arith in s) ∙ mul-add m e 1 ∙ ap (λ n. m * e + n) (let o : m * 1 ≡ m = omega arith in o) in
    ap triangle last ∙ (let r : triangle (m + e) + (m + e) ≡ triangle m + (triangle e + e) + m * suc e = omega arith in r)

pub chirp-lt : (d m : ℕ) → chirp d m < 65536
unfolding chirp
chirp-lt d m = power-lt 2 (d * triangle m) (omega arith)

pub chirp_inverse-lt : (d m : ℕ) → chirp_inverse d m < 65536
unfolding chirp_inverse
chirp_inverse-lt d m = power-lt (chirp d m) 65534 (chirp-lt d m)

power-positive : (n : ℕ) → pow 2 n ≡ 0 → ⊥
unfolding pow
power-positive zero e = let f : ◌≡◌ {A = ℕ} 1 0 = e in omega arith
power-positive (suc n) e = power-positive n (no_zero_divisor 2 (pow 2 n) (omega arith) (omega arith) (power-lt 2 n (omega arith)) e)

pub chirp_inverse_is : (d m : ℕ) → mul (chirp d m) (chirp_inverse d m) ≡ 1
unfolding chirp chirp_inverse
chirp_inverse_is d m = power_inverse (chirp d m) (positive (chirp d m) (λ z. power-positive (d * triangle m) z)) (chirp-lt d m)
  where
    positive : (a : ℕ) → (a ≡ 0 → ⊥) → 0 < a
    positive zero n = absurd (n refl)
    positive (suc a) n = omega arith

-- the power whose exponent is a product
pub chirp_product : (d m e : ℕ) → chirp d (m + e) ≡ mul (mul (chirp d m) (chirp d e)) (pow 2 (d * (m * e)))
unfolding chirp
chirp_product d m e =
    ap (λ n. pow 2 (d * n)) (triangle-add m e)
    ∙ ap (pow 2) (mul-add d (triangle m + triangle e) (m * e) ∙ ap (λ n. n + d * (m * e)) (mul-add d (triangle m) (triangle e)))
    ∙ power-add 2 (d * triangle m + d * triangle e) (d * (m * e)) (omega arith)
    ∙ ap (λ v. mul v (pow 2 (d * (m * e)))) (power-add 2 (d * triangle m) (d * triangle e) (omega arith))

pub power_by_chirps : (d m e : ℕ) → pow 2 (d * (m * e)) ≡ mul (chirp_inverse d e) (mul (chirp_inverse d m) (chirp d (m + e)))
power_by_chirps d m e =
    let a : ℕ = chirp d m in
    let b : ℕ = chirp d e in
    let i : ℕ = chirp_inverse d m in
    let j : ℕ = chirp_inverse d e in
    let p : ℕ = pow 2 (d * (m * e)) in
    let ha : a < 65536 = chirp-lt d m in
    let hb : b < 65536 = chirp-lt d e in
    let hi : i < 65536 = chirp_inverse-lt d m in
    let hj : j < 65536 = chirp_inverse-lt d e in
    let hp : p < 65536 = power-lt 2 (d * (m * e)) (omega arith) in
    let hbp : mul b p < 65536 = product-lt b p hb hp in
    sym (ap (λ v. mul j (mul i v)) (chirp_product d m e ∙ product_assoc a b p ha hb hp)
    ∙ ap (mul j) (sym (product_assoc i a (mul b p) hi ha hbp) ∙ ap (λ v. mul v (mul b p)) (product_comm i a hi ha ∙ chirp_inverse_is d m)
    ∙ product_comm 1 (mul b p) (omega arith) hbp ∙ product-one (mul b p) hbp)
    ∙ sym (product_assoc j b p hj hb hp) ∙ ap (λ v. mul v p) (product_comm j b hj hb ∙ chirp_inverse_is d e)
    ∙ product_comm 1 p (omega arith) hp ∙ product-one p hp)

-- ---- sums of products of two sequences, at positions that add up

-- from weights for the sequence, and the values of the polynomial with the others as coefficients
pub hankel_sum : (k b n t : ℕ) (sequence weights others : ℕ → ℕ) → GivesElements weights → GivesElements others → n + t ≤ 2 ^ k → AreWeights k sequence b weights
    → field_sum n (λ m. mul (sequence (b + (m + t))) (others m)) ≡ field_sum (2 ^ k) (λ u. mul (mul (weights u) (value n others (point u))) (pow (point u) t))
hankel_sum k b n t sequence weights others hw ho fits are =
    field_sum_same n (λ m. mul (sequence (b + (m + t))) (others m)) (λ m. field_sum (2 ^ k) (λ u. mul (mul (weights u) (mul (others m) (pow (point u) m))) (pow (point u) t)))
    (λ m h. ap (λ v. mul v (others m)) (are (m + t) (omega arith))
    ∙ sym (field_sum_linear (2 ^ k) (λ x. mul x (others m)) (λ u. mul (weights u) (pow (point u) (m + t))) (product_linear_left (others m)))
    ∙ field_sum_same (2 ^ k) (λ u. mul (mul (weights u) (pow (point u) (m + t))) (others m)) (λ u. mul (mul (weights u) (mul (others m) (pow (point u) m))) (pow (point u) t))
    (λ u l. step (weights u) (others m) (pow (point u) m) (pow (point u) t) (pow (point u) (m + t)) (hw u) (ho m) (power-lt (point u) m (point-lt u)) (power-lt (point u) t (point-lt u)) (power-add (point u) m t (point-lt u))))
    ∙ field_sum_swap n (2 ^ k) (λ m u. mul (mul (weights u) (mul (others m) (pow (point u) m))) (pow (point u) t))
    ∙ field_sum_same (2 ^ k) (λ u. field_sum n (λ m. mul (mul (weights u) (mul (others m) (pow (point u) m))) (pow (point u) t)))
    (λ u. mul (mul (weights u) (value n others (point u))) (pow (point u) t))
    (λ u l. field_sum_linear n (λ x. mul x (pow (point u) t)) (λ m. mul (weights u) (mul (others m) (pow (point u) m))) (product_linear_left (pow (point u) t))
    ∙ ap (λ v. mul v (pow (point u) t)) (field_sum_scaled n (weights u) (λ m. mul (others m) (pow (point u) m))))
  where
    step : (w v p q r : ℕ) → w < 65536 → v < 65536 → p < 65536 → q < 65536 → r ≡ mul p q → mul (mul w r) v ≡ mul (mul w (mul v p)) q
    step w v p q r hw hv hp hq is =
        let hpq : mul p q < 65536 = product-lt p q hp hq in
        let hvp : mul v p < 65536 = product-lt v p hv hp in
        ap (λ x. mul (mul w x) v) is ∙ product_assoc w (mul p q) v hw hpq hv
        ∙ ap (mul w) (product_comm (mul p q) v hpq hv ∙ sym (product_assoc v p q hv hp hq))
        ∙ sym (product_assoc w (mul v p) q hw hvp hq)

-- ---- a class of numbers

-- the sum, over the numbers d * m + r with m below n, of a value times power e of 2 to that number
pub class_sum : (d r e n : ℕ) (values : ℕ → ℕ) → GivesElements values
    → field_sum n (λ m. mul (pow 2 (e * (d * m + r))) (values m))
    ≡ mul (mul (pow 2 (e * r)) (chirp_inverse d e)) (field_sum n (λ m. mul (chirp d (m + e)) (mul (chirp_inverse d m) (values m))))
class_sum d r e n values elements =
    field_sum_same n (λ m. mul (pow 2 (e * (d * m + r))) (values m)) (λ m. mul (mul (pow 2 (e * r)) (chirp_inverse d e)) (mul (chirp d (m + e)) (mul (chirp_inverse d m) (values m))))
    (λ m h. each m) ∙ field_sum_scaled n (mul (pow 2 (e * r)) (chirp_inverse d e)) (λ m. mul (chirp d (m + e)) (mul (chirp_inverse d m) (values m)))
  where
    exponent : (m : ℕ) → e * (d * m + r) ≡ e * r + d * (m * e)
    exponent m = mul-add e (d * m) r ∙ add_comm (e * (d * m)) (e * r) ∙ ap (λ n. e * r + n) (mul_comm e (d * m) ∙ mul_assoc d m e)

    each : (m : ℕ) → mul (pow 2 (e * (d * m + r))) (values m) ≡ mul (mul (pow 2 (e * r)) (chirp_inverse d e)) (mul (chirp d (m + e)) (mul (chirp_inverse d m) (values m)))
    each m =
        let a : ℕ = pow 2 (e * r) in
        let j : ℕ = chirp_inverse d e in
        let i : ℕ = chirp_inverse d m in
        let c : ℕ = chirp d (m + e) in
        let v : ℕ = values m in
        let ha : a < 65536 = power-lt 2 (e * r) (omega arith) in
        let hj : j < 65536 = chirp_inverse-lt d e in
        let hi : i < 65536 = chirp_inverse-lt d m in
        let hc : c < 65536 = chirp-lt d (m + e) in
        let hv : v < 65536 = elements m in
        let hic : mul i c < 65536 = product-lt i c hi hc in
        let hiv : mul i v < 65536 = product-lt i v hi hv in
        ap (λ n. mul (pow 2 n) v) (exponent m) ∙ ap (λ x. mul x v) (power-add 2 (e * r) (d * (m * e)) (omega arith) ∙ ap (mul a) (power_by_chirps d m e))
        ∙ ap (λ x. mul x v) (sym (product_assoc a j (mul i c) ha hj hic)) ∙ product_assoc (mul a j) (mul i c) v (product-lt a j ha hj) hic hv
        ∙ ap (mul (mul a j)) (ap (λ x. mul x v) (product_comm i c hi hc) ∙ product_assoc c i v hc hi hv)

-- Powers of 2 repeat after 65,535 of them, and so do chirps.

pub power_whole_rounds : (q : ℕ) → pow 2 (q * 65535) ≡ 1
power_whole_rounds q = sym (power-mul 2 65535 q (omega arith)) ∙ ap (λ a. pow a q) power-65535 ∙ one-power q

-- a power of 2 after whole cycles
pub power_behind_rounds : (q r : ℕ) → pow 2 (q * 65535 + r) ≡ pow 2 r
power_behind_rounds q r =
    let small : pow 2 r < 65536 = power-lt 2 r (omega arith) in
    power-add 2 (q * 65535) r (omega arith) ∙ ap (λ x. mul x (pow 2 r)) (power_whole_rounds q) ∙ product_comm 1 (pow 2 r) (omega arith) small ∙ product-one (pow 2 r) small

-- twice the sum of the numbers up to m
triangle_twice : (m : ℕ) → triangle (suc m) * 2 ≡ suc m * m
unfolding triangle
triangle_twice zero = refl
triangle_twice (suc m) =
    let so_far : triangle (suc m) * 2 ≡ suc m * m = triangle_twice m in
    let more : suc m * (m + 2) ≡ suc m * m + suc m * 2 = mul-add (suc m) m 2 in
    let stepped : suc (suc m) * suc m ≡ suc m * (m + 2) = mul_comm (suc (suc m)) (suc m) ∙ ap (λ k. suc m * k) (let e : suc (suc m) ≡ m + 2 = omega arith in e) in
    let r : (triangle (suc m) + suc m) * 2 ≡ suc (suc m) * suc m = omega arith in r

pub triangle_is : (m : ℕ) → m * (m - 1) / 2 ≡ triangle m
unfolding triangle
triangle_is zero = refl
triangle_is (suc m) =
    let less : suc m - 1 ≡ m = omega arith in
    ap (λ k. suc m * k / 2) less ∙ (let twice : triangle (suc m) * 2 ≡ suc m * m = triangle_twice m in let r : suc m * m / 2 ≡ triangle (suc m) = omega arith in r)

chirp_once_around : (d m : ℕ) → chirp d (m + 65535) ≡ chirp d m
unfolding chirp
chirp_once_around d m =
    let a : ℕ = chirp d m in
    let ha : a < 65536 = chirp-lt d m in
    let twice : triangle 65535 * 2 ≡ 65535 * 65534 = triangle_twice 65534 in
    let whole : triangle 65535 ≡ 32767 * 65535 = omega arith in
    let one : chirp d 65535 ≡ 1 = ap (λ n. pow 2 (d * n)) whole ∙ ap (pow 2) (sym (mul_assoc d 32767 65535)) ∙ power_whole_rounds (d * 32767) in
    let other : pow 2 (d * (m * 65535)) ≡ 1 = ap (pow 2) (sym (mul_assoc d m 65535)) ∙ power_whole_rounds (d * m) in
    chirp_product d m 65535
    ∙ ap (λ x. mul (mul a x) (pow 2 (d * (m * 65535)))) one
    ∙ ap (λ x. mul (mul a 1) x) other
    ∙ ap (λ x. mul x 1) (product-one a ha) ∙ product-one a ha

chirp_around : (d q r : ℕ) → chirp d (r + q * 65535) ≡ chirp d r
chirp_around d zero r = ap (chirp d) (let e : r + 0 * 65535 ≡ r = omega arith in e)
chirp_around d (suc q) r =
    ap (chirp d) (let e : r + suc q * 65535 ≡ r + q * 65535 + 65535 = omega arith in e)
    ∙ chirp_once_around d (r + q * 65535) ∙ chirp_around d q r

-- a chirp by the residue of its number modulo 65,535
pub chirp_round : (d m : ℕ) → pow 2 (d * (m % 65535 * (m % 65535 - 1) / 2)) ≡ chirp d m
unfolding chirp
chirp_round d m =
    ap (λ n. pow 2 (d * n)) (triangle_is (m % 65535))
    ∙ sym (ap (chirp d) (let parts : m ≡ m % 65535 + m / 65535 * 65535 = omega arith in parts) ∙ chirp_around d (m / 65535) (m % 65535))

-- Sums over slices as sums over the exponents of their constants.

-- ---- the exponents of constants

abbrev counted : Bool → ℕ → ℕ
counted b n = cond b (suc n) n

-- how many of the n numbers from a on pass a test, counted from the first
count : (ℕ → Bool) → ℕ → ℕ → ℕ
count test a zero = 0
count test a (suc n) = counted (test a) (count test (a + 1) n)

counted_swap : (b c : Bool) (n : ℕ) → counted b (counted c n) ≡ counted c (counted b n)
counted_swap true true n = refl
counted_swap true false n = refl
counted_swap false true n = refl
counted_swap false false n = refl

count_last : (test : ℕ → Bool) (a n : ℕ) → count test a (suc n) ≡ counted (test (a + n)) (count test a n)
unfolding count
count_last test a zero = ap (λ k. counted (test k) 0) (sym (add-zero a))
count_last test a (suc n) =
    ap (counted (test a)) (count_last test (a + 1) n)
    ∙ counted_swap (test a) (test (a + 1 + n)) (count test (a + 1) n)
    ∙ ap (λ k. counted (test k) (counted (test a) (count test (a + 1) n))) (let e : a + 1 + n ≡ a + suc n = omega arith in e)

-- a number that passes is at the index that counts the passing numbers before it
filter_at : (test : ℕ → Bool) (n a i : ℕ) → i < n → test (a + i) ≡ true → get_or (filter test (range_with_len a n)) (count test a i) 0 ≡ a + i
unfolding count
filter_at test zero a i h passes = absurd (omega arith)
filter_at test (suc n) a zero h passes =
    ap (λ b. get_or (cond b (a ∷ filter test (range_with_len (a + 1) n)) (filter test (range_with_len (a + 1) n))) 0 0) (ap test (sym (add-zero a)) ∙ passes) ∙ sym (add-zero a)
filter_at test (suc n) a (suc i) h passes =
    let shift : a + suc i ≡ a + 1 + i = omega arith in
    let rest : get_or (filter test (range_with_len (a + 1) n)) (count test (a + 1) i) 0 ≡ a + 1 + i =
    filter_at test n (a + 1) i (omega arith) (ap test (sym shift) ∙ passes) in
    behind (test a) (filter test (range_with_len (a + 1) n)) (count test (a + 1) i) ∙ rest ∙ sym shift
  where
    behind : (b : Bool) (xs : List ℕ) (k : ℕ) → get_or (cond b (a ∷ xs) xs) (counted b k) 0 ≡ get_or xs k 0
    behind true xs k = refl
    behind false xs k = refl

coprimes_below_count : (n : ℕ) → coprimes_below n ≡ count is_coprime 0 n
unfolding coprimes_below count
coprimes_below_count zero = refl
coprimes_below_count (suc n) =
    ap (λ k. counted (is_coprime n) k) (coprimes_below_count n) ∙ sym (count_last is_coprime 0 n ∙ ap (λ k. counted (is_coprime k) (count is_coprime 0 n)) (let e : 0 + n ≡ n = omega arith in e))

-- For the prover: where 0 does not pass, the count may begin at 1, so that no list of a known length is computed
count_skipped : (test : ℕ → Bool) (n : ℕ) → test 0 ≡ false → count test 0 (suc n) ≡ count test 1 n
unfolding count
count_skipped test n none = ap (λ b. counted b (count test 1 n)) none

-- a number below 65,536 coprime to 65,535 is the exponent of the slice that the coprime numbers before it count
pub exponent_at : (n : ℕ) → n < 65536 → is_coprime n ≡ true → get_or constant_powers (coprimes_below n) 0 ≡ n
unfolding constant_powers
exponent_at zero h passes = absurd (let e : false ≡ true = passes in cc)
exponent_at (suc n) h passes =
    let one : 1 + n ≡ suc n = omega arith in
    ap (λ k. get_or (filter is_coprime (range_with_len 1 65535)) k 0) (coprimes_below_count (suc n) ∙ count_skipped is_coprime n refl)
    ∙ filter_at is_coprime 65535 1 n (omega arith) (ap is_coprime one ∙ passes) ∙ one

-- ---- how many there are

count_length : (test : ℕ → Bool) (n a : ℕ) → count test a n ≡ length (filter test (range_with_len a n))
unfolding count
count_length test zero a = refl
count_length test (suc n) a = ap (counted (test a)) (count_length test n (a + 1)) ∙ both (test a) (filter test (range_with_len (a + 1) n))
  where
    both : (b : Bool) (xs : List ℕ) → counted b (length xs) ≡ length (cond b (a ∷ xs) xs)
    both true xs = refl
    both false xs = refl

pub coprimes_below_all : coprimes_below 65536 ≡ 32768
unfolding constant_powers
coprimes_below_all = coprimes_below_count 65536 ∙ count_skipped is_coprime 65535 refl ∙ count_length is_coprime 65535 1 ∙ length-constant_powers

pub coprimes_below-mono : (m n : ℕ) → m ≤ n → coprimes_below m ≤ coprimes_below n
unfolding coprimes_below
coprimes_below-mono m zero h = let e : m ≡ 0 = omega arith in subst (λ k. coprimes_below k ≤ coprimes_below 0) (sym e) (omega arith)
coprimes_below-mono m (suc n) h = elim (cases_eq m (suc n)) [
  | inl same ↦ subst (λ k. coprimes_below k ≤ coprimes_below (suc n)) (sym same) (omega arith)
  | inr less ↦ let before : coprimes_below m ≤ coprimes_below n = coprimes_below-mono m n (omega arith) in up (is_coprime n) (coprimes_below m) (coprimes_below n) before
]
  where
    up : (b : Bool) (x y : ℕ) → x ≤ y → x ≤ counted b y
    up true x y h = omega arith
    up false x y h = h

-- ---- sums

sum_so_far : (words f : ℕ → ℕ) (n : ℕ) → n ≤ 65536
    → field_sum n (λ m. mul (f m) (word_at_power words m)) ≡ field_sum (coprimes_below n) (λ i. mul (f (get_or constant_powers i 0)) (words i))
unfolding field_sum coprimes_below word_at_power
sum_so_far words f zero h = refl
sum_so_far words f (suc n) h = elim (cases_Bool (is_coprime n)) [
  | inl coprime ↦
      rw coprime (ap₂ bit_xor (sum_so_far words f n (omega arith)) (ap (λ e. mul (f e) (words (coprimes_below n))) (sym (exponent_at n (omega arith) coprime))))
  | inr other ↦
      rw other (ap (bit_xor (field_sum n (λ m. mul (f m) (word_at_power words m)))) (product-zero (f n)) ∙ xor_zero_r _ ∙ sum_so_far words f n (omega arith))
]

pub word_at_power-lt : (n : ℕ) (words : ℕ → ℕ) → AreWordsOfFirst n words → GivesElements (word_at_power words)
unfolding word_at_power
word_at_power-lt n words first m = either (is_coprime m) (words (coprimes_below m)) (first.fit (coprimes_below m))
  where
    either : (b : Bool) (x : ℕ) → x < 65536 → cond b x 0 < 65536
    either true x h = h
    either false x h = omega arith

pub word_at_power-none : (n : ℕ) (words : ℕ → ℕ) → AreWordsOfFirst n words → (m : ℕ) → n ≤ coprimes_below m → word_at_power words m ≡ 0
unfolding word_at_power
word_at_power-none n words first m h = either (is_coprime m) (words (coprimes_below m)) (first.none (coprimes_below m) h)
  where
    either : (b : Bool) (x : ℕ) → x ≡ 0 → cond b x 0 ≡ 0
    either true x e = e
    either false x e = refl

-- a sum over slices, by the exponents of their constants, below any bound on all of them
pub sum_over_powers : (n : ℕ) (words f : ℕ → ℕ) → AreWordsOfFirst n words → (end : ℕ) → n ≤ coprimes_below end
    → field_sum end (λ m. mul (f m) (word_at_power words m)) ≡ field_sum n (λ i. mul (f (get_or constant_powers i 0)) (words i))
sum_over_powers n words f first end h = elim (cases_lt 65536 end) [
  | inl beyond ↦
      let whole : 65536 + (end - 65536) ≡ end = omega arith in
      ap (λ k. field_sum k (λ m. mul (f m) (word_at_power words m))) (sym whole)
      ∙ field_sum_join 65536 (end - 65536) (λ m. mul (f m) (word_at_power words m))
      ∙ ap (bit_xor (field_sum 65536 (λ m. mul (f m) (word_at_power words m))))
      (field_sum_none (end - 65536) (λ m. mul (f (65536 + m)) (word_at_power words (65536 + m)))
      (λ m l. ap (mul (f (65536 + m))) (word_at_power-none n words first (65536 + m) (omega (arith, coprimes_below_all, first.few, coprimes_below-mono 65536 (65536 + m) (omega arith)))) ∙ product-zero (f (65536 + m))))
      ∙ xor_zero_r _ ∙ within 65536 (omega arith) (omega (arith, coprimes_below_all, first.few))
  | inr inside ↦ within end inside h
]
  where
    within : (end : ℕ) → end ≤ 65536 → n ≤ coprimes_below end → field_sum end (λ m. mul (f m) (word_at_power words m)) ≡ field_sum n (λ i. mul (f (get_or constant_powers i 0)) (words i))
    within end fits l =
        let whole : n + (coprimes_below end - n) ≡ coprimes_below end = omega arith in
        let g : ℕ → ℕ = λ i. mul (f (get_or constant_powers i 0)) (words i) in
        sum_so_far words f end fits ∙ ap (λ k. field_sum k g) (sym whole) ∙ field_sum_join n (coprimes_below end - n) g
        ∙ ap (bit_xor (field_sum n g)) (field_sum_none (coprimes_below end - n) (λ i. g (n + i)) (λ i k. ap (mul (f (get_or constant_powers (n + i) 0))) (first.none (n + i) (omega arith)) ∙ product-zero _))
        ∙ xor_zero_r (field_sum n g)

-- ---- sums in classes and in windows

-- by the residues of the numbers modulo d
pub sum_by_class : (d n : ℕ) (f : ℕ → ℕ) → field_sum (d * n) f ≡ field_sum d (λ r. field_sum n (λ m. f (d * m + r)))
unfolding field_sum
sum_by_class d zero f = ap (λ k. field_sum k f) (mul-zero d) ∙ sym (field_sum_none d (λ r. 0) (λ r h. refl))
sum_by_class d (suc n) f =
    let more : d * suc n ≡ d * n + d = ap (λ k. d * k) (let s : suc n ≡ n + 1 = omega arith in s) ∙ mul-add d n 1 ∙ ap (λ k. d * n + k) (let o : d * 1 ≡ d = omega arith in o) in
    ap (λ k. field_sum k f) more ∙ field_sum_join (d * n) d f ∙ ap (λ s. bit_xor s (field_sum d (λ r. f (d * n + r)))) (sum_by_class d n f)
    ∙ sym (field_sum_xor d (λ r. field_sum n (λ m. f (d * m + r))) (λ r. f (d * n + r)))

-- n at a time
pub sum_by_window : (count n : ℕ) (f : ℕ → ℕ) → field_sum (count * n) f ≡ field_sum count (λ a. field_sum n (λ m. f (a * n + m)))
unfolding field_sum
sum_by_window zero n f = ap (λ k. field_sum k f) (zero-mul n)
sum_by_window (suc c) n f =
    let more : suc c * n ≡ c * n + n = ap (λ k. k * n) (let s : suc c ≡ c + 1 = omega arith in s) ∙ add-mul c 1 n ∙ ap (λ k. c * n + k) (one-mul n) in
    ap (λ k. field_sum k f) more ∙ field_sum_join (c * n) n f ∙ ap (λ s. bit_xor s (field_sum n (λ m. f (c * n + m)))) (sum_by_window c n f)

-- A sum over slices by classes, windows and the points of a subspace.

coefficient_power : (e i : ℕ) → coefficient e i ≡ pow 2 (e * get_or constant_powers i 0)
unfolding coefficient constant
coefficient_power e i = power-mul 2 (get_or constant_powers i 0) e (omega arith)

-- the sum over slices of each one's coefficient and word, by the classes
pub sum_by_classes : (n : ℕ) (words : ℕ → ℕ) → AreWordsOfFirst n words → (cut : Cut) → Reaches n cut → (e : ℕ)
    → field_sum n (λ i. mul (coefficient e i) (words i)) ≡ field_sum cut.classes (class_sum_at cut words e)
sum_by_classes n words first cut reaches e =
    field_sum_same n (λ i. mul (coefficient e i) (words i)) (λ i. mul (pow 2 (e * get_or constant_powers i 0)) (words i)) (λ i h. ap (λ c. mul c (words i)) (coefficient_power e i))
    ∙ sym (sum_over_powers n words (λ m. pow 2 (e * m)) first (cut.classes * (cut.windows * cut.window)) reaches)
    ∙ sum_by_class cut.classes (cut.windows * cut.window) (λ m. mul (pow 2 (e * m)) (word_at_power words m))

-- the part of a class, by the windows
pub class_by_windows : (n : ℕ) (words : ℕ → ℕ) → AreWordsOfFirst n words → (cut : Cut) → (e t : ℕ) (weights : ℕ → ℕ → ℕ) → HasWeights cut e weights → cut.window + t ≤ 2 ^ cut.levels
    → (r : ℕ) → class_sum_at cut words (e + t) r ≡ from_gathered cut (gathered cut weights words r) e t r
class_by_windows n words first cut e t weights has fits r =
    class_sum d r (e + t) (cut.windows * b) (λ m. word_at_power words (d * m + r)) (λ m. word_at_power-lt n words first (d * m + r))
    ∙ ap (mul (mul (pow 2 ((e + t) * r)) (chirp_inverse d (e + t)))) (all_windows r)
  where
    d : ℕ
    d = cut.classes

    b : ℕ
    b = cut.window

    other : ℕ → ℕ → ℕ
    other r m = coefficient_of cut words r m

    other-lt : (r : ℕ) → GivesElements (other r)
    other-lt r m = product-lt (chirp_inverse d m) (word_at_power words (d * m + r)) (chirp_inverse-lt d m) (word_at_power-lt n words first (d * m + r))

    window : (r a : ℕ) → a < cut.windows → field_sum b (λ m. mul (chirp d (a * b + m + (e + t))) (other r (a * b + m)))
        ≡ field_sum (2 ^ cut.levels) (λ u. mul (mul (weights a u) (window_value cut words r a u)) (pow (point u) t))
    window r a h =
        field_sum_same b (λ m. mul (chirp d (a * b + m + (e + t))) (other r (a * b + m))) (λ m. mul (chirp d (a * b + e + (m + t))) (other r (a * b + m)))
        (λ m l. ap (λ x. mul (chirp d x) (other r (a * b + m))) (let s : a * b + m + (e + t) ≡ a * b + e + (m + t) = omega arith in s))
        ∙ hankel_sum cut.levels (a * b + e) b t (chirp d) (weights a) (λ m. other r (a * b + m)) (has.fit a) (λ m. other-lt r (a * b + m)) fits (has.are a h)

    all_windows : (r : ℕ) → field_sum (cut.windows * b) (λ m. mul (chirp d (m + (e + t))) (other r m)) ≡ field_sum (2 ^ cut.levels) (λ u. mul (gathered cut weights words r u) (pow (point u) t))
    all_windows r =
        sum_by_window cut.windows b (λ m. mul (chirp d (m + (e + t))) (other r m))
        ∙ field_sum_same cut.windows (λ a. field_sum b (λ m. mul (chirp d (a * b + m + (e + t))) (other r (a * b + m))))
        (λ a. field_sum (2 ^ cut.levels) (λ u. mul (mul (weights a u) (window_value cut words r a u)) (pow (point u) t))) (window r)
        ∙ field_sum_swap cut.windows (2 ^ cut.levels) (λ a u. mul (mul (weights a u) (window_value cut words r a u)) (pow (point u) t))
        ∙ field_sum_same (2 ^ cut.levels) (λ u. field_sum cut.windows (λ a. mul (mul (weights a u) (window_value cut words r a u)) (pow (point u) t)))
        (λ u. mul (gathered cut weights words r u) (pow (point u) t)) (λ u l. field_sum_linear cut.windows (λ x. mul x (pow (point u) t)) (λ a. mul (weights a u) (window_value cut words r a u)) (product_linear_left (pow (point u) t)))

-- the same sum, by the classes and the windows of each
pub sum_by_windows : (n : ℕ) (words : ℕ → ℕ) → AreWordsOfFirst n words → (cut : Cut) → Reaches n cut → (e t : ℕ) (weights : ℕ → ℕ → ℕ) → HasWeights cut e weights → cut.window + t ≤ 2 ^ cut.levels
    → field_sum n (λ i. mul (coefficient (e + t) i) (words i)) ≡ field_sum cut.classes (λ r. from_gathered cut (gathered cut weights words r) e t r)
sum_by_windows n words first cut reaches e t weights has fits =
    sum_by_classes n words first cut reaches (e + t)
    ∙ field_sum_same cut.classes (class_sum_at cut words (e + t)) (λ r. from_gathered cut (gathered cut weights words r) e t r) (λ r h. class_by_windows n words first cut e t weights has fits r)

-- The numbers of slices by the exponents of their constants.

-- the entry that is pushed for an exponent
abbrev pub number_of : ℕ → ℕ
number_of m = if is_coprime m then coprimes_below m else 65535

-- the entries of the exponents below `exponent`, while fewer than n slices have been found
pub record AreFound (n : ℕ) (numbers : List ℕ) (found exponent : ℕ) : Type 0 where
  pub few : length numbers ≤ exponent
  pub so_far : found ≡ coprimes_below (length numbers)
  pub at_most : found ≤ n
  pub missing : found < n → length numbers ≡ exponent
  pub each : (m : ℕ) → m < length numbers → get_or numbers m 0 ≡ number_of m

pub none_found : (n : ℕ) → AreFound n [] 0 0
unfolding coprimes_below
none_found n = grind arith

pub enough_found : (n found exponent : ℕ) (numbers : List ℕ) → AreFound n numbers found exponent → n ≤ found → AreFound n numbers found (exponent + 1)
enough_found n found exponent numbers so_far enough = grind arith

-- whether the exponent is coprime to 65,535, as 0 or 1
abbrev pub bit_of : Bool → ℕ
bit_of b = if b then 1 else 0

pub one_found : (n found exponent x next : ℕ) (numbers : List ℕ) → AreFound n numbers found exponent → found < n
    → x ≡ (if is_coprime exponent then found else 65535) → next ≡ found + bit_of (is_coprime exponent)
    → AreFound n (numbers ++ x ∷ []) next (exponent + 1)
unfolding coprimes_below
one_found n found exponent x next numbers so_far low pushed counted =
    let place : length numbers ≡ exponent = so_far.missing low in
    let count : found ≡ coprimes_below exponent = so_far.so_far ∙ ap coprimes_below place in
    let longer : length (numbers ++ x ∷ []) ≡ length numbers + 1 = length-append numbers (x ∷ []) in
    let here : coprimes_below (suc exponent) ≡ found + bit_of (is_coprime exponent) = step (is_coprime exponent) (coprimes_below exponent) ∙ ap (λ k. k + bit_of (is_coprime exponent)) (sym count) in
    record {
      few = let e = so_far.few in omega (arith, e, longer);
      so_far = counted ∙ sym here ∙ ap coprimes_below (let e : suc exponent ≡ length (numbers ++ x ∷ []) = omega (arith, place, longer) in e);
      at_most = let b = small (is_coprime exponent) in omega (arith, counted, b);
      missing = λ h. omega (arith, place, longer);
      each = λ m h. each m (omega (arith, longer, place)) place count;
    }
  where
    step : (b : Bool) (k : ℕ) → (if b then suc k else k) ≡ k + bit_of b
    step true k = omega arith
    step false k = omega arith

    small : (b : Bool) → bit_of b ≤ 1
    small true = omega arith
    small false = omega arith

    each : (m : ℕ) → m < exponent + 1 → length numbers ≡ exponent → found ≡ coprimes_below exponent → get_or (numbers ++ x ∷ []) m 0 ≡ number_of m
    each m h place count = elim (cases_lt m exponent) [
      | inl l ↦ get_or_append_left numbers (x ∷ []) 0 m (omega (arith, place)) ∙ so_far.each m (omega (arith, place))
      | inr high ↦
          (let same : m ≡ exponent = omega arith in
          ap (λ k. get_or (numbers ++ x ∷ []) k 0) same ∙ get_or_at numbers x [] 0 exponent place ∙ pushed
          ∙ ap (λ k. if is_coprime exponent then k else 65535) count ∙ ap number_of (sym same))
    ]

-- all constants' exponents are below 65,536, so all slices are found
pub all_found : (n found : ℕ) (numbers : List ℕ) → n ≤ 32768 → AreFound n numbers found 65536 → AreNumbers n numbers
all_found n found numbers few so_far = record {
  few = so_far.few;
  reach = elim (cases_lt found n) [
    | inl low ↦
        (let whole : found ≡ 32768 = so_far.so_far ∙ ap coprimes_below (so_far.missing low) ∙ coprimes_below_all in
        absurd (omega arith))
    | inr enough ↦ subst (λ k. n ≤ k) so_far.so_far enough
  ];
  each = so_far.each;
}

-- ---- a buffer from a word on

-- ---- the slice whose constant is a power of 2

pub bytes_found : (buffers : List (List ℕ)) (numbers : List ℕ) (power number p : ℕ) (bytes : List ℕ) → length buffers ≤ 32768 → AreNumbers (length buffers) numbers
    → number ≡ get_or numbers power 65535 → bytes ≡ list_at buffers number → word p bytes ≡ word_at_power (words_at buffers p) power
unfolding word_at_power
bytes_found buffers numbers power number p bytes few are is found = elim (cases_lt power (length numbers)) [
  | inl known ↦
      ap (word p) found ∙ ap (λ k. word p (list_at buffers k)) (is ∙ get_or_default numbers power 65535 0 known ∙ are.each power known) ∙ by_bit (is_coprime power)
  | inr beyond ↦
      ap (word p) (found ∙ ap (list_at buffers) (is ∙ get_or_past numbers power 65535 beyond) ∙ get_or_past buffers 65535 [] (omega arith))
      ∙ sym (zero_either_way (is_coprime power) (words_at buffers p (coprimes_below power)) (ap (word p) (get_or_past buffers (coprimes_below power) [] (let m = coprimes_below-mono (length numbers) power beyond in let r = are.reach in omega (arith, m, r)))))
]
  where
    by_bit : (b : Bool) → word p (list_at buffers (if b then coprimes_below power else 65535)) ≡ (if b then words_at buffers p (coprimes_below power) else 0)
    by_bit true = refl
    by_bit false = ap (word p) (get_or_past buffers 65535 [] (omega arith))

pub ruleset slices_found = (length-map, bytes_found)

-- what `auto` is given for the laws
pub ruleset law_steps = (chirp_inverse_is, power_by_chirps)
