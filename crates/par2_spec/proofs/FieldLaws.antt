-- Functions that respect the exclusive or, and induction over the bits of a number.
use Rattle.par2_spec.proofs.Common.{ℕ, zero, suc, ◌+◌, ◌*◌, ◌/◌, ◌%◌, ◌^◌, ◌<◌, ◌≡◌, ◌⊎◌, sym, ap, ap₂, ◌∙◌, subst, Bool, true, eqb, ◌&&◌, arith, add-zero, zero-mul, one-mul, pow_pos, pow-suc, mod-lt, div-lt_iff_lt-mul, mul_comm, div-add-mod, xor_comm, xor_block, bit_at_xor, eqb-true, and_parts, cases_eq, bit_at, xor_assoc, xor_self, xor_zero_r, xor_shifted, bit_xor, refl, ltb, xor_lt, ltb-true, modulus, product, remainder, mul, eqb-false, ne_eqb, or_cases, false≢true, not-true, ◌≤◌, inl, inr, false, List, [], ◌∷◌, length, ◌-◌, not, suc-add, zero-add, list_any, AllByRecursion, IsDistinct, pow, get_or, cases_lt, filter, range_with_len, length-range_with_len, get_or-range_with_len, constant_powers, constant, IsStrictlyIncreasing, AllPairs-from_increasing, IsStrictlyIncreasing-filter, All-filter, All-from_get_or, All-get_or, filter_passes, length-filter, count_by, is_coprime, ◌≢◌, xor_zero_l, word, row_sum, field_sum, dot, length-le_from_distinct_below, GivesElements}
use Rattle.par2_spec.proofs.ListsLaws.{by_either}

-- f maps an exclusive or to the exclusive or of its values
pub record IsLinear (f : ℕ → ℕ) : Type 0 where
  pub on_xor : (x y : ℕ) → f (bit_xor x y) ≡ bit_xor (f x) (f y)

pub xor_middle : (a b c d : ℕ) → bit_xor (bit_xor a b) (bit_xor c d) ≡ bit_xor (bit_xor a c) (bit_xor b d)
xor_middle a b c d = grind (arith, (xor_assoc a b (bit_xor c d)), (xor_assoc b c d), (xor_comm b c), (xor_assoc c b d), (xor_assoc a c (bit_xor b d)))

pub xor_shl : (k a b : ℕ) → bit_xor a b * 2 ^ k ≡ bit_xor (a * 2 ^ k) (b * 2 ^ k)
xor_shl k a b = grind (arith, (add-zero (a * 2 ^ k)), (add-zero (b * 2 ^ k)), (xor_block k a b 0 0 (pow_pos k) (pow_pos k)), (add-zero (bit_xor a b * 2 ^ k)))

-- a bit is 0 or 1
pub bit_cases : (x i : ℕ) → (bit_at x i ≡ 0) ⊎ (bit_at x i ≡ 1)
bit_cases x i = grind arith

-- a bit times a number
pub bit_times_xor : (x i a b : ℕ) → bit_at x i * bit_xor a b ≡ bit_xor (bit_at x i * a) (bit_at x i * b)
bit_times_xor x i a b = grind (arith, by_either, bit_cases, zero-mul, one-mul)

pub bit_xor_times : (x y i v : ℕ) → bit_at (bit_xor x y) i * v ≡ bit_xor (bit_at x i * v) (bit_at y i * v)
bit_xor_times x y i v = grind (arith, (bit_at_xor x y i), bit_cases, by_either, zero-mul, one-mul, xor_zero_r, xor_self)

-- A property of 0 and of each power of 2 below 2 ^ n that exclusive or preserves holds for all numbers below 2 ^ n.
pub bits_ind : (P : ℕ → Type 0) → P 0 → ((x y : ℕ) → P x → P y → P (bit_xor x y)) → (n : ℕ) → ((i : ℕ) → i < n → P (2 ^ i)) → (x : ℕ) → x < 2 ^ n → P x
bits_ind P none more zero ones x h = let e : x ≡ 0 = omega arith in subst P (sym e) none
bits_ind P none more (suc n) ones x h =
    let whole : bit_xor (x / 2 ^ n * 2 ^ n) (x % 2 ^ n) ≡ x =
    xor_shifted (x / 2 ^ n) n (x % 2 ^ n) (mod-lt x (pow_pos n)) ∙ ap (λ y. y + x % 2 ^ n) (mul_comm (x / 2 ^ n) (2 ^ n)) ∙ div-add-mod x (2 ^ n) in
    let rest : P (x % 2 ^ n) = bits_ind P none more n (λ i k. ones i (omega arith)) (x % 2 ^ n) (mod-lt x (pow_pos n)) in
    subst P whole (more (x / 2 ^ n * 2 ^ n) (x % 2 ^ n) (top (x / 2 ^ n) ((div-lt_iff_lt-mul (pow_pos n)).1 (rw (← mul_comm (2 ^ n) 2, ← pow-suc 2 n) h))) rest)
  where
    top : (q : ℕ) → q < 2 → P (q * 2 ^ n)
    top zero k = subst P (sym (zero-mul (2 ^ n))) none
    top (suc zero) k = subst P (sym (one-mul (2 ^ n))) (ones n (omega arith))
    top (suc (suc q)) k = absurd (omega arith)

pub linear-zero : (f : ℕ → ℕ) → IsLinear f → f 0 ≡ 0
linear-zero f l = l.on_xor 0 0 ∙ xor_self (f 0)

-- a test of each number below n
abbrev pub tested : (ℕ → Bool) → ℕ → Bool
tested t zero = true
tested t (suc n) = t n && tested t n

pub tested_at : (t : ℕ → Bool) (n i : ℕ) → tested t n ≡ true → i < n → t i ≡ true
tested_at t zero i e h = absurd (omega arith)
tested_at t (suc n) i e h =
    let parts = and_parts (t n) (tested t n) e in
    by_either (cases_eq i n) (λ same. ap t same ∙ parts.0) (λ other. tested_at t n i parts.1 (omega arith))

-- two functions that respect the exclusive or and agree at each power of 2 below 2 ^ n agree below 2 ^ n
pub linear_same : (f g : ℕ → ℕ) → IsLinear f → IsLinear g → (n : ℕ) → ((i : ℕ) → i < n → f (2 ^ i) ≡ g (2 ^ i)) → (x : ℕ) → x < 2 ^ n → f x ≡ g x
linear_same f g lf lg n ones x h =
    bits_ind (λ y. f y ≡ g y) (linear-zero f lf ∙ sym (linear-zero g lg))
    (λ a b p q. lf.on_xor a b ∙ ap₂ bit_xor p q ∙ sym (lg.on_xor a b)) n ones x h

-- the same, by a test
pub linear_same_tested : (f g : ℕ → ℕ) → IsLinear f → IsLinear g → (n : ℕ) → tested (λ i. eqb (f (2 ^ i)) (g (2 ^ i))) n ≡ true → (x : ℕ) → x < 2 ^ n → f x ≡ g x
linear_same_tested f g lf lg n t x h =
    linear_same f g lf lg n (λ i k. eqb-true (f (2 ^ i)) (g (2 ^ i)) (tested_at (λ j. eqb (f (2 ^ j)) (g (2 ^ j))) n i t k)) x h

-- The laws of the product.

product-right : (n a x y : ℕ) → product a (bit_xor x y) n ≡ bit_xor (product a x n) (product a y n)
unfolding product
product-right zero a x y = refl
product-right (suc n) a x y = grind (arith, (product-right n a x y), (bit_xor_times x y n (a * 2 ^ n)), xor_middle)

product-left : (n b x y : ℕ) → product (bit_xor x y) b n ≡ bit_xor (product x b n) (product y b n)
unfolding product
product-left zero b x y = refl
product-left (suc n) b x y = grind (arith, (product-left n b x y), (xor_shl n x y), (bit_times_xor b n (x * 2 ^ n) (y * 2 ^ n)), xor_middle)

remainder-xor : (n x y : ℕ) → remainder (bit_xor x y) n ≡ bit_xor (remainder x n) (remainder y n)
unfolding remainder
remainder-xor zero x y = refl
remainder-xor (suc n) x y =
    ap (λ v. remainder v n) (ap (bit_xor (bit_xor x y)) (bit_xor_times x y (16 + n) (modulus * 2 ^ n)) ∙ xor_middle x y _ _)
    ∙ remainder-xor n _ _

pub product_linear_right : (a : ℕ) → IsLinear (λ b. mul a b)
unfolding mul
product_linear_right a = record { on_xor = λ x y. ap (λ v. remainder v 15) (product-right 16 a x y) ∙ remainder-xor 15 (product a x 16) (product a y 16) }

pub product_linear_left : (b : ℕ) → IsLinear (λ a. mul a b)
unfolding mul
product_linear_left b = record { on_xor = λ x y. ap (λ v. remainder v 15) (product-left 16 b x y) ∙ remainder-xor 15 (product x b 16) (product y b 16) }

-- each of these is computed for the powers of 2 only
test_comm : tested (λ i. tested (λ j. eqb (mul (2 ^ i) (2 ^ j)) (mul (2 ^ j) (2 ^ i))) 16) 16 ≡ true
unfolding mul
test_comm = refl

test_one : tested (λ i. eqb (mul (2 ^ i) 1) (2 ^ i)) 16 ≡ true
unfolding mul
test_one = refl

test_lt : tested (λ i. tested (λ j. ltb (mul (2 ^ i) (2 ^ j)) 65536) 16) 16 ≡ true
unfolding mul
test_lt = refl

test_assoc : tested (λ i. tested (λ j. tested (λ k. eqb (mul (mul (2 ^ i) (2 ^ j)) (2 ^ k)) (mul (2 ^ i) (mul (2 ^ j) (2 ^ k)))) 16) 16) 16 ≡ true
unfolding mul
test_assoc = refl

pub product-lt : (a b : ℕ) → a < 65536 → b < 65536 → mul a b < 65536
product-lt a b ha hb =
    bits_ind (λ x. mul x b < 65536)
    (let e : mul 0 b ≡ 0 = linear-zero _ (product_linear_left b) in omega arith)
    (λ x y p q. subst (λ v. v < 65536) (sym ((product_linear_left b).on_xor x y)) (xor_lt 16 _ _ p q))
    16
    (λ i k. bits_ind (λ y. mul (2 ^ i) y < 65536)
    (let e : mul (2 ^ i) 0 ≡ 0 = linear-zero _ (product_linear_right (2 ^ i)) in omega arith)
    (λ x y p q. subst (λ v. v < 65536) (sym ((product_linear_right (2 ^ i)).on_xor x y)) (xor_lt 16 _ _ p q))
    16
    (λ j m. ltb-true (mul (2 ^ i) (2 ^ j)) 65536
    (tested_at (λ u. ltb (mul (2 ^ i) (2 ^ u)) 65536) 16 j
    (tested_at (λ v. tested (λ u. ltb (mul (2 ^ v) (2 ^ u)) 65536) 16) 16 i test_lt k) m))
    b hb)
    a ha

pub product_comm : (a b : ℕ) → a < 65536 → b < 65536 → mul a b ≡ mul b a
product_comm a b ha hb =
    linear_same (λ x. mul x b) (λ x. mul b x) (product_linear_left b) (product_linear_right b) 16
    (λ i k. linear_same_tested (λ y. mul (2 ^ i) y) (λ y. mul y (2 ^ i)) (product_linear_right (2 ^ i)) (product_linear_left (2 ^ i)) 16
    (tested_at (λ v. tested (λ u. eqb (mul (2 ^ v) (2 ^ u)) (mul (2 ^ u) (2 ^ v))) 16) 16 i test_comm k) b hb)
    a ha

pub product-one : (a : ℕ) → a < 65536 → mul a 1 ≡ a
product-one a ha = linear_same_tested (λ x. mul x 1) (λ x. x) (product_linear_left 1) (record { on_xor = λ x y. refl }) 16 test_one a ha

pub product_assoc : (a b c : ℕ) → a < 65536 → b < 65536 → c < 65536 → mul (mul a b) c ≡ mul a (mul b c)
product_assoc a b c ha hb hc =
    linear_same (λ x. mul (mul x b) c) (λ x. mul x (mul b c))
    (record { on_xor = λ x y. ap (λ v. mul v c) ((product_linear_left b).on_xor x y) ∙ (product_linear_left c).on_xor _ _ })
    (product_linear_left (mul b c)) 16
    (λ i k. linear_same (λ y. mul (mul (2 ^ i) y) c) (λ y. mul (2 ^ i) (mul y c))
    (record { on_xor = λ x y. ap (λ v. mul v c) ((product_linear_right (2 ^ i)).on_xor x y) ∙ (product_linear_left c).on_xor _ _ })
    (record { on_xor = λ x y. ap (mul (2 ^ i)) ((product_linear_left c).on_xor x y) ∙ (product_linear_right (2 ^ i)).on_xor _ _ }) 16
    (λ j m. linear_same_tested (λ z. mul (mul (2 ^ i) (2 ^ j)) z) (λ z. mul (2 ^ i) (mul (2 ^ j) z))
    (product_linear_right (mul (2 ^ i) (2 ^ j)))
    (record { on_xor = λ x y. ap (mul (2 ^ i)) ((product_linear_right (2 ^ j)).on_xor x y) ∙ (product_linear_right (2 ^ i)).on_xor _ _ }) 16
    (tested_at (λ v. tested (λ w. eqb (mul (mul (2 ^ i) (2 ^ v)) (2 ^ w)) (mul (2 ^ i) (mul (2 ^ v) (2 ^ w)))) 16) 16 j
    (tested_at (λ u. tested (λ v. tested (λ w. eqb (mul (mul (2 ^ u) (2 ^ v)) (2 ^ w)) (mul (2 ^ u) (mul (2 ^ v) (2 ^ w)))) 16) 16) 16 i test_assoc k) m) c hc)
    b hb)
    a ha

-- 2 has order 65,535, so each element but 0 is a power of 2 and has one inverse.

-- ---- an injective function from the numbers below n to the numbers below n is surjective (pigeonhole principle)

values : (ℕ → ℕ) → ℕ → List ℕ
values f zero = []
values f (suc n) = f n ∷ values f n

length-values : (f : ℕ → ℕ) (n : ℕ) → length (values f n) ≡ n
unfolding values
length-values f zero = refl
length-values f (suc n) = ap suc (length-values f n)

below_values : (f : ℕ → ℕ) (n m : ℕ) → ((i : ℕ) → i < n → f i < m) → (q : ℕ) → list_any (eqb q) (values f n) ≡ true → q < m
unfolding values
below_values f zero m fits q e = absurd (false≢true e)
below_values f (suc n) m fits q e = by_either (or_cases (eqb q (f n)) (list_any (eqb q) (values f n)) e)
    (λ same. let k : q ≡ f n = eqb-true q (f n) same in let l : f n < m = fits n (omega arith) in omega arith)
    (λ rest. below_values f n m (λ i h. fits i (omega arith)) q rest)

other_values : (f : ℕ → ℕ) (a n : ℕ) → ((i : ℕ) → i < n → a ≡ f i → ⊥) → AllByRecursion (λ y. eqb a y ≡ false) (values f n)
unfolding values
other_values f a zero apart = tt
other_values f a (suc n) apart = (ne_eqb a (f n) (apart n (omega arith)), other_values f a n (λ i h. apart i (omega arith)))

distinct_values : (f : ℕ → ℕ) (n : ℕ) → ((i j : ℕ) → i < j → j < n → f i ≡ f j → ⊥) → IsDistinct eqb (values f n)
unfolding values IsDistinct
distinct_values f zero apart = tt
distinct_values f (suc n) apart =
    (other_values f (f n) n (λ i h e. apart i n h (omega arith) (sym e)), distinct_values f n (λ i j h k. apart i j h (omega arith)))

search_values : (f : ℕ → ℕ) (a n : ℕ) → ((i : ℕ) × ((i < n) × (f i ≡ a))) ⊎ ((i : ℕ) → i < n → a ≡ f i → ⊥)
search_values f a zero = inr (λ i h e. absurd (omega arith))
search_values f a (suc n) = elim (cases_eq a (f n)) [
  | inl same ↦ inl (n, (omega arith, sym same))
  | inr other ↦ by_either (search_values f a n)
      (λ found. inl (found.0, (omega (arith, found.1.0), found.1.1)))
      (λ none. inr (λ i h e. by_either (cases_eq i n) (λ last. other (e ∙ ap f last)) (λ before. none i (omega arith) e)))
]

pub onto_from_injective : (f : ℕ → ℕ) (n : ℕ) → ((i : ℕ) → i < n → f i < n) → ((i j : ℕ) → i < j → j < n → f i ≡ f j → ⊥)
    → (a : ℕ) → a < n → (i : ℕ) × ((i < n) × (f i ≡ a))
unfolding IsDistinct
onto_from_injective f n fits apart a h = elim (search_values f a n) [
  | inl found ↦ found
  | inr none ↦
      let long : length (a ∷ values f n) ≤ n =
      length-le_from_distinct_below (a ∷ values f n) n (other_values f a n none, distinct_values f n apart)
      (λ q e. by_either (or_cases (eqb q a) (list_any (eqb q) (values f n)) e)
      (λ same. let k : q ≡ a = eqb-true q a same in omega arith)
      (λ rest. below_values f n n fits q rest))
      in absurd (omega (arith, length-values f n))
]

-- the product of 2 and an element: a shift, and the remainder of one step
unfoldable pub double : ℕ → ℕ
double x = bit_xor (x * 2) (bit_at x 15 * modulus)

double_linear : IsLinear double
unfolding double
double_linear = record { on_xor = λ x y. ap₂ bit_xor (xor_shl 1 x y) (bit_xor_times x y 15 modulus) ∙ xor_middle (x * 2) (y * 2) _ _ }

test_double : tested (λ i. eqb (double (2 ^ i)) (mul 2 (2 ^ i))) 16 ≡ true
unfolding double mul
test_double = refl

pub double_product : (x : ℕ) → x < 65536 → double x ≡ mul 2 x
double_product x h = linear_same_tested double (λ y. mul 2 y) double_linear (product_linear_right 2) 16 test_double x h

pub power-lt : (a n : ℕ) → a < 65536 → pow a n < 65536
unfolding pow
power-lt a zero h = omega arith
power-lt a (suc n) h = product-lt a (pow a n) h (power-lt a n h)

pub power-add : (a m n : ℕ) → a < 65536 → pow a (m + n) ≡ mul (pow a m) (pow a n)
unfolding pow
power-add a zero n h = ap (pow a) (zero-add n) ∙ sym (product-one (pow a n) (power-lt a n h)) ∙ product_comm (pow a n) 1 (power-lt a n h) (omega arith)
power-add a (suc m) n h =
    ap (pow a) (suc-add m n) ∙ ap (mul a) (power-add a m n h)
    ∙ sym (product_assoc a (pow a m) (pow a n) h (power-lt a m h) (power-lt a n h))

-- n doublings
walk : ℕ → ℕ → ℕ
walk zero x = x
walk (suc n) x = walk n (double x)

walk_power : (n x : ℕ) → x < 65536 → walk n x ≡ mul (pow 2 n) x
unfolding walk pow
walk_power zero x h = sym (product-one x h) ∙ product_comm x 1 h (omega arith)
walk_power (suc n) x h =
    let p : pow 2 n < 65536 = power-lt 2 n (omega arith) in
    ap (walk n) (double_product x h) ∙ walk_power n (mul 2 x) (product-lt 2 x (omega arith) h) ∙ sym (product_assoc (pow 2 n) 2 x p (omega arith) h)
    ∙ ap (λ v. mul v x) (product_comm (pow 2 n) 2 p (omega arith))

walk_one : (n : ℕ) → walk n 1 ≡ pow 2 n
walk_one n = walk_power n 1 (omega arith) ∙ product-one (pow 2 n) (power-lt 2 n (omega arith))

-- whether doubling n + 1 gives 1 and none of the n before it does
comes_round : ℕ → ℕ → Bool → Bool
comes_round zero x so_far = so_far && eqb (double x) 1
comes_round (suc n) x so_far = let y = double x in comes_round n y (so_far && not (eqb y 1))

comes_round_at : (n x : ℕ) (so_far : Bool) → comes_round n x so_far ≡ true
    → (so_far ≡ true) × ((walk (suc n) x ≡ 1) × ((k : ℕ) → k < n → walk (suc k) x ≡ 1 → ⊥))
unfolding comes_round walk
comes_round_at zero x so_far e =
    let parts = and_parts so_far (eqb (double x) 1) e in
    (parts.0, (eqb-true (double x) 1 parts.1, λ k h. absurd (omega arith)))
comes_round_at (suc n) x so_far e =
    let rest = comes_round_at n (double x) (so_far && not (eqb (double x) 1)) e in
    let parts = and_parts so_far (not (eqb (double x) 1)) rest.0 in
    (parts.0, (rest.1.0, at (double x) (not-true _ parts.1) rest.1.1))
  where
    at : (y : ℕ) → eqb y 1 ≡ false → ((k : ℕ) → k < n → walk (suc k) y ≡ 1 → ⊥) → (k : ℕ) → k < suc n → walk k y ≡ 1 → ⊥
    at y first later zero h = eqb-false y 1 first
    at y first later (suc k) h = later k (omega arith)

-- by computation: 65,535 doublings lead from 1 to 1, and no fewer do
test_order : comes_round 65534 1 true ≡ true
unfolding comes_round double
test_order = refl

pub power-65535 : pow 2 65535 ≡ 1
power-65535 = sym (walk_one 65535) ∙ (comes_round_at 65534 1 true test_order).1.0

pub power-sooner : (k : ℕ) → 0 < k → k < 65535 → pow 2 k ≡ 1 → ⊥
power-sooner zero z h e = absurd (omega arith)
power-sooner (suc k) z h e = (comes_round_at 65534 1 true test_order).1.1 k (omega arith) (walk_one (suc k) ∙ e)

power-whole : (i j : ℕ) → i + j ≡ 65535 → mul (pow 2 i) (pow 2 j) ≡ 1
power-whole i j e = sym (power-add 2 i j (omega arith)) ∙ ap (pow 2) e ∙ power-65535

pub product-zero : (a : ℕ) → mul a 0 ≡ 0
product-zero a = linear-zero (λ b. mul a b) (product_linear_right a)

pub zero-product : (b : ℕ) → mul 0 b ≡ 0
zero-product b = linear-zero (λ a. mul a b) (product_linear_left b)

one≢zero : ◌≡◌ {A = ℕ} 1 0 → ⊥
one≢zero e = omega arith

pub power-nonzero : (i : ℕ) → i < 65535 → pow 2 i ≡ 0 → ⊥
power-nonzero i h e =
    one≢zero (sym (power-whole i (65535 - i) (omega arith)) ∙ ap (λ v. mul v (pow 2 (65535 - i))) e ∙ zero-product _)

pub power-injective : (i j : ℕ) → i < j → j < 65535 → pow 2 i ≡ pow 2 j → ⊥
power-injective i j h k e =
    power-sooner (i + (65535 - j)) (omega arith) (omega arith)
    (power-add 2 i (65535 - j) (omega arith) ∙ ap (λ v. mul v (pow 2 (65535 - j))) e ∙ power-whole j (65535 - j) (omega arith))

-- 0, then the powers of 2
element : ℕ → ℕ
element zero = 0
element (suc i) = pow 2 i

element-lt : (i : ℕ) → i < 65536 → element i < 65536
unfolding element
element-lt i h = grind (arith, power-lt)

element_injective : (i j : ℕ) → i < j → j < 65536 → element i ≡ element j → ⊥
unfolding element
element_injective i j h k e = grind (arith, power-nonzero, power-injective)

-- each element but 0 is a power of 2
pub logarithm : (a : ℕ) → 0 < a → a < 65536 → (i : ℕ) × ((i < 65535) × (pow 2 i ≡ a))
unfolding element
logarithm a z h =
    let at : (i : ℕ) → i < 65536 → element i ≡ a → (j : ℕ) × ((j < 65535) × (pow 2 j ≡ a)) = λ i k e. grind arith in
    let found = onto_from_injective element 65536 element-lt element_injective a h in at found.0 found.1.0 found.1.1

pub has_inverse : (a : ℕ) → 0 < a → a < 65536 → (b : ℕ) × ((b < 65536) × (mul a b ≡ 1))
has_inverse a z h =
    let found = logarithm a z h in (
      pow 2 (65535 - found.0),
      (
        power-lt 2 _ (omega arith),
        ap (λ v. mul v (pow 2 (65535 - found.0))) (sym found.1.1) ∙ power-whole found.0 (65535 - found.0) (omega (arith, found.1.0)),
      ),
    )

-- a factor that has an inverse can be cancelled
pub cancel : (a b c : ℕ) → 0 < a → a < 65536 → b < 65536 → c < 65536 → mul a b ≡ mul a c → b ≡ c
cancel a b c z ha hb hc e =
    let i = has_inverse a z ha in
    let back : (v : ℕ) → v < 65536 → mul i.0 (mul a v) ≡ v = λ v hv.
    grind (arith, (product_assoc i.0 a v i.1.0 ha hv), (product_comm i.0 a i.1.0 ha), i.1.1, (product_comm 1 v (omega arith) hv), (product-one v hv)) in
    sym (back b hb) ∙ ap (mul i.0) e ∙ back c hc

pub one_inverse : (a b c : ℕ) → a < 65536 → b < 65536 → c < 65536 → mul a b ≡ 1 → mul a c ≡ 1 → b ≡ c
one_inverse a b c ha hb hc e f = cancel a b c (by_either (cases_eq a 0) (λ none. absurd (one≢zero (sym e ∙ ap (λ x. mul x b) none ∙ zero-product b))) (λ some. omega (arith, some))) ha hb hc (e ∙ sym f)

pub no_zero_divisor : (a b : ℕ) → 0 < a → a < 65536 → b < 65536 → mul a b ≡ 0 → b ≡ 0
no_zero_divisor a b z ha hb e = cancel a b 0 z ha hb (omega arith) (e ∙ sym (product-zero a))

-- The exponents of the constants increase, so the constants are distinct.

pub range_rises : (f n : ℕ) → IsStrictlyIncreasing (range_with_len f n)
range_rises f n k within = grind (arith, length-range_with_len, get_or-range_with_len)

powers_rise : IsStrictlyIncreasing constant_powers
unfolding constant_powers
powers_rise = IsStrictlyIncreasing-filter is_coprime (range_with_len 1 65535) (range_rises 1 65535)

pub length-constant_powers : length constant_powers ≡ 32768
unfolding constant_powers
length-constant_powers = length-filter is_coprime (range_with_len 1 65535) ∙ eqb-true (count_by is_coprime (range_with_len 1 65535)) 32768 refl

-- 65,535 is not one of them
coprime-lt : (n : ℕ) → n < 65536 → is_coprime n ≡ true → n < 65535
coprime-lt n h e = grind (arith, by_either, cases_lt, false≢true)

range-lt : (a n i : ℕ) → i < length (range_with_len a n) → get_or (range_with_len a n) i 0 < a + n
range-lt a n i h = grind (arith, (length-range_with_len a n), get_or-range_with_len)

-- an item that a filter leaves of a range is in the range and passes the test
kept-lt : (p : ℕ → Bool) (a n k : ℕ) → k < length (filter p (range_with_len a n))
    → (get_or (filter p (range_with_len a n)) k 0 < a + n) × (p (get_or (filter p (range_with_len a n)) k 0) ≡ true)
kept-lt p a n k h =
    let run = range_with_len a n in (
      All-get_or (λ x. x < a + n) (filter p run) k 0 h (All-filter p (λ x. x < a + n) run (All-from_get_or (λ x. x < a + n) run 0 (range-lt a n))),
      All-get_or (λ x. p x ≡ true) (filter p run) k 0 h (filter_passes p run),
    )

constant_power-lt : (k : ℕ) → k < 32768 → get_or constant_powers k 0 < 65535
unfolding constant_powers
constant_power-lt k h =
    let found = kept-lt is_coprime 1 65535 k (subst (λ n. k < n) (sym length-constant_powers) h) in
    coprime-lt (get_or constant_powers k 0) found.0 found.1

pub constant-lt : (k : ℕ) → constant k < 65536
unfolding constant
constant-lt k = power-lt 2 (get_or constant_powers k 0) (omega arith)

pub constant-nonzero : (k : ℕ) → k < 32768 → constant k ≡ 0 → ⊥
unfolding constant
constant-nonzero k h = power-nonzero (get_or constant_powers k 0) (constant_power-lt k h)

pub constant-injective : (i j : ℕ) → i < j → j < 32768 → constant i ≡ constant j → ⊥
unfolding constant
constant-injective i j h k =
    power-injective (get_or constant_powers i 0) (get_or constant_powers j 0)
    (AllPairs-from_increasing constant_powers powers_rise i j 0 h (subst (λ n. j < n) (sym length-constant_powers) k))
    (constant_power-lt j k)

-- Sums in the field.

-- exclusive or is its own inverse
pub xor_off : (a b : ℕ) → bit_xor (bit_xor a b) b ≡ a
xor_off a b = xor_assoc a b b ∙ ap (bit_xor a) (xor_self b) ∙ xor_zero_r a

pub xor_same : (a b : ℕ) → bit_xor a b ≡ 0 → a ≡ b
xor_same a b e = sym (xor_off a b) ∙ ap (λ x. bit_xor x b) e ∙ xor_zero_l b

pub field_sum_same : (n : ℕ) (f g : ℕ → ℕ) → ((i : ℕ) → i < n → f i ≡ g i) → field_sum n f ≡ field_sum n g
unfolding field_sum
field_sum_same zero f g same = refl
field_sum_same (suc n) f g same = ap₂ bit_xor (field_sum_same n f g (λ i h. same i (omega arith))) (same n (omega arith))

pub field_sum_xor : (n : ℕ) (f g : ℕ → ℕ) → field_sum n (λ i. bit_xor (f i) (g i)) ≡ bit_xor (field_sum n f) (field_sum n g)
unfolding field_sum
field_sum_xor zero f g = refl
field_sum_xor (suc n) f g = ap (λ s. bit_xor s (bit_xor (f n) (g n))) (field_sum_xor n f g) ∙ xor_middle (field_sum n f) (field_sum n g) (f n) (g n)

pub field_sum_scaled : (n k : ℕ) (f : ℕ → ℕ) → field_sum n (λ i. mul k (f i)) ≡ mul k (field_sum n f)
unfolding field_sum
field_sum_scaled zero k f = sym (product-zero k)
field_sum_scaled (suc n) k f = grind (arith, (field_sum_scaled n k f), ((product_linear_right k).on_xor (field_sum n f) (f n)))

pub field_sum_none : (n : ℕ) (f : ℕ → ℕ) → ((i : ℕ) → i < n → f i ≡ 0) → field_sum n f ≡ 0
unfolding field_sum
field_sum_none zero f none = refl
field_sum_none (suc n) f none = ap₂ bit_xor (field_sum_none n f (λ i h. none i (omega arith))) (none n (omega arith))

-- only one position is nonzero
pub field_sum_one : (n q : ℕ) (f : ℕ → ℕ) → q < n → ((i : ℕ) → i < n → i ≢ q → f i ≡ 0) → field_sum n f ≡ f q
unfolding field_sum
field_sum_one zero q f h none = absurd (omega arith)
field_sum_one (suc n) q f h none = by_either (cases_eq q n)
    (λ same. ap₂ bit_xor (field_sum_none n f (λ i l. none i (omega arith) (λ e. omega arith))) (sym (ap f same)))
    (λ other. ap₂ bit_xor (field_sum_one n q f (omega arith) (λ i l. none i (omega arith))) (none n (omega arith) (λ e. other (sym e))) ∙ xor_zero_r (f q))

-- only two positions are nonzero
pub field_sum_two : (n p q : ℕ) (f : ℕ → ℕ) → p < n → q < n → p ≢ q → ((i : ℕ) → i < n → i ≢ p → i ≢ q → f i ≡ 0) → field_sum n f ≡ bit_xor (f p) (f q)
unfolding field_sum
field_sum_two zero p q f hp hq apart none = absurd (omega arith)
field_sum_two (suc n) p q f hp hq apart none = elim (cases_eq q n) [
  | inl same ↦ ap₂ bit_xor (field_sum_one n p f (omega arith) (λ i l m. none i (omega arith) m (λ e. omega arith))) (sym (ap f same))
  | inr other ↦ by_either (cases_eq p n)
      (λ same. ap₂ bit_xor (field_sum_one n q f (omega arith) (λ i l m. none i (omega arith) (λ e. omega arith) m)) (sym (ap f same)) ∙ xor_comm (f q) (f p))
      (λ else. ap₂ bit_xor (field_sum_two n p q f (omega arith) (omega arith) apart (λ i l. none i (omega arith))) (none n (omega arith) (λ e. else (sym e)) (λ e. other (sym e))) ∙ xor_zero_r _)
]

pub field_sum-lt : (n : ℕ) (f : ℕ → ℕ) → ((i : ℕ) → f i < 65536) → field_sum n f < 65536
unfolding field_sum
field_sum-lt zero f small = omega arith
field_sum-lt (suc n) f small = xor_lt 16 (field_sum n f) (f n) (field_sum-lt n f small) (small n)

-- the first value and the sum of the others
pub field_sum_head : (n : ℕ) (f : ℕ → ℕ) → field_sum (suc n) f ≡ bit_xor (f 0) (field_sum n (λ i. f (suc i)))
unfolding field_sum
field_sum_head zero f = xor_comm 0 (f 0)
field_sum_head (suc n) f = grind (arith, xor_assoc, field_sum_head n f)

-- the product of a row's word and a vector's element
abbrev pub product_at : List ℕ → List ℕ → ℕ → ℕ
product_at row v i = mul (get_or row i 0) (get_or v i 0)

pub dot_sum : (n : ℕ) (row v : List ℕ) → length row ≤ n → dot row v ≡ field_sum n (product_at row v)
unfolding dot
dot_sum n [] v h = sym (field_sum_none n (product_at [] v) (λ i _. zero-product (get_or v i 0)))
dot_sum n (c ∷ row) [] h = sym (field_sum_none n (product_at (c ∷ row) []) (λ i _. product-zero (get_or (c ∷ row) i 0)))
dot_sum zero (c ∷ row) (x ∷ v) h = absurd (omega arith)
dot_sum (suc n) (c ∷ row) (x ∷ v) h = grind (arith, field_sum_head, dot_sum n row v (omega arith))

-- ---- rows

pub row_sum-lt : (n : ℕ) (row : List ℕ) (f : ℕ → ℕ) → ((i : ℕ) → word i row < 65536) → GivesElements f → row_sum n row f < 65536
row_sum-lt n row f small v = field_sum-lt n (λ i. mul (word i row) (f i)) (λ i. product-lt (word i row) (f i) (small i) (v i))

pub row_sum_empty : (n : ℕ) (row : List ℕ) (f : ℕ → ℕ) → ((i : ℕ) → i < n → word i row ≡ 0) → row_sum n row f ≡ 0
row_sum_empty n row f none = field_sum_none n (λ i. mul (word i row) (f i)) (λ i h. ap (λ x. mul x (f i)) (none i h) ∙ zero-product (f i))

-- a multiple of a row
pub row_sum_scaled : (n k : ℕ) (row new : List ℕ) (f : ℕ → ℕ) → k < 65536 → ((i : ℕ) → word i row < 65536) → GivesElements f
    → ((i : ℕ) → i < n → word i new ≡ mul k (word i row)) → row_sum n new f ≡ mul k (row_sum n row f)
row_sum_scaled n k row new f hk small v is =
    field_sum_same n (λ i. mul (word i new) (f i)) (λ i. mul k (mul (word i row) (f i)))
    (λ i h. ap (λ x. mul x (f i)) (is i h) ∙ product_assoc k (word i row) (f i) hk (small i) (v i))
    ∙ field_sum_scaled n k (λ i. mul (word i row) (f i))

-- a multiple of a row, added to another
pub row_sum_added : (n k : ℕ) (row add new : List ℕ) (f : ℕ → ℕ) → k < 65536 → ((i : ℕ) → word i add < 65536) → GivesElements f
    → ((i : ℕ) → i < n → word i new ≡ bit_xor (word i row) (mul k (word i add))) → row_sum n new f ≡ bit_xor (row_sum n row f) (mul k (row_sum n add f))
row_sum_added n k row add new f hk small v is =
    field_sum_same n (λ i. mul (word i new) (f i)) (λ i. bit_xor (mul (word i row) (f i)) (mul k (mul (word i add) (f i))))
    (λ i h. ap (λ x. mul x (f i)) (is i h) ∙ (product_linear_left (f i)).on_xor (word i row) (mul k (word i add))
    ∙ ap (bit_xor (mul (word i row) (f i))) (product_assoc k (word i add) (f i) hk (small i) (v i)))
    ∙ field_sum_xor n (λ i. mul (word i row) (f i)) (λ i. mul k (mul (word i add) (f i)))
    ∙ ap (bit_xor (row_sum n row f)) (field_sum_scaled n k (λ i. mul (word i add) (f i)))

-- a unit row: 1 at one position and 0 elsewhere
pub row_sum_unit : (n p : ℕ) (row : List ℕ) (f : ℕ → ℕ) → p < n → GivesElements f → word p row ≡ 1 → ((i : ℕ) → i < n → i ≢ p → word i row ≡ 0) → row_sum n row f ≡ f p
row_sum_unit n p row f h v one none = grind (arith, (field_sum_one n p (λ i. mul (word i row) (f i)) h (λ i l m. ap (λ x. mul x (f i)) (none i l m) ∙ zero-product (f i))), one, (product_comm 1 (f p) (omega arith) (v p)), (product-one (f p) (v p)))
