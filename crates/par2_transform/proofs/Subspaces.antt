-- Sums in the field: concatenated, exchanged, and distributed over.
use Rattle.par2_transform.proofs.Common.{ℕ, zero, suc, ◌+◌, ◌*◌, ◌≡◌, refl, sym, ap, ◌∙◌, arith, bit_xor, add-zero, inl, inr, zero-mul, one-mul, mul-zero, bit_at, xor_assoc, xor_zero_r, mul, IsLinear, linear-zero, bit_cases, bit_times_xor, product-zero, zero-product, field_sum_xor, field_sum_none, field_sum, ◌/◌, ◌%◌, ◌^◌, ◌<◌, ap₂, true, eqb, ltb, get_or, pow-suc, eqb-true, ltb-true, cases_lt, get_or_past, div-le_self, div-div-eq-div-mul, xor_comm, xor_lt, xor_zero_l, xor_self, xor_middle, bit_xor_times, bits_ind, tested, tested_at, power-lt, power-add, product-lt, product_comm, product-one, product_linear_left, product_linear_right, field_sum_same, field_sum-lt, field_sum_head, xor_off, pow, basis, bit_numbers, point, point_number, vanishing, powers_in, ◌-◌, ◌≤◌, pow_pos, mul_comm, mul_assoc, add_assoc, add-mul, pow-lt, div-mul-add, xor_shifted, GivesElements, product_assoc, field_sum_scaled, member, sum_ahead, IsMerged, from, power_sum, bit_at-suc, bit_at_above, bit_at_xor, bit_at_lowest}

-- a sum in two parts
pub field_sum_join : (m n : ℕ) (f : ℕ → ℕ) → field_sum (m + n) f ≡ bit_xor (field_sum m f) (field_sum n (λ i. f (m + i)))
unfolding field_sum
field_sum_join m zero f = ap (λ k. field_sum k f) (add-zero m) ∙ sym (xor_zero_r (field_sum m f))
field_sum_join m (suc n) f =
    ap (λ k. field_sum k f) (let e : m + suc n ≡ suc (m + n) = omega arith in e)
    ∙ ap (λ s. bit_xor s (f (m + n))) (field_sum_join m n f)
    ∙ xor_assoc (field_sum m f) (field_sum n (λ i. f (m + i))) (f (m + n))

pub field_sum_next : (n : ℕ) (f : ℕ → ℕ) → field_sum (n + 1) f ≡ bit_xor (field_sum n f) (f n)
unfolding field_sum
field_sum_next n f = ap (λ k. field_sum k f) (let e : n + 1 ≡ suc n = omega arith in e)

-- a sum with one more bit in front of a value
pub field_sum_bit_set : (n x : ℕ) (f : ℕ → ℕ) → bit_at x n ≡ 1 → field_sum (n + 1) (λ j. bit_at x j * f j) ≡ bit_xor (field_sum n (λ j. bit_at x j * f j)) (f n)
field_sum_bit_set n x f set =
    field_sum_next n (λ j. bit_at x j * f j) ∙ ap (λ b. bit_xor (field_sum n (λ j. bit_at x j * f j)) (b * f n)) set ∙ ap (bit_xor (field_sum n (λ j. bit_at x j * f j))) (one-mul (f n))

pub field_sum_bit_unset : (n x : ℕ) (f : ℕ → ℕ) → (bit_at x n ≡ 1 → ⊥) → field_sum (n + 1) (λ j. bit_at x j * f j) ≡ field_sum n (λ j. bit_at x j * f j)
field_sum_bit_unset n x f unset =
    let none : bit_at x n ≡ 0 = elim (bit_cases x n) [ inl e ↦ e | inr e ↦ absurd (unset e) ] in
    field_sum_next n (λ j. bit_at x j * f j) ∙ ap (λ b. bit_xor (field_sum n (λ j. bit_at x j * f j)) (b * f n)) none
    ∙ ap (bit_xor (field_sum n (λ j. bit_at x j * f j))) (zero-mul (f n)) ∙ xor_zero_r (field_sum n (λ j. bit_at x j * f j))

-- sums of sums, in the other order
pub field_sum_swap : (m n : ℕ) (f : ℕ → ℕ → ℕ) → field_sum m (λ i. field_sum n (f i)) ≡ field_sum n (λ j. field_sum m (λ i. f i j))
unfolding field_sum
field_sum_swap zero n f = sym (field_sum_none n (λ j. 0) (λ j h. refl))
field_sum_swap (suc m) n f =
    ap (λ s. bit_xor s (field_sum n (f m))) (field_sum_swap m n f)
    ∙ sym (field_sum_xor n (λ j. field_sum m (λ i. f i j)) (f m))

-- a function that respects the exclusive or, applied to a sum
pub field_sum_linear : (n : ℕ) (g f : ℕ → ℕ) → IsLinear g → field_sum n (λ i. g (f i)) ≡ g (field_sum n f)
unfolding field_sum
field_sum_linear zero g f linear = sym (linear-zero g linear)
field_sum_linear (suc n) g f linear =
    ap (λ s. bit_xor s (g (f n))) (field_sum_linear n g f linear) ∙ sym (linear.on_xor (field_sum n f) (f n))

-- a bit in front of a sum
pub field_sum_bit : (n x j : ℕ) (f : ℕ → ℕ) → field_sum n (λ i. bit_at x j * f i) ≡ bit_at x j * field_sum n f
unfolding field_sum
field_sum_bit zero x j f = sym (mul-zero (bit_at x j))
field_sum_bit (suc n) x j f =
    ap (λ s. bit_xor s (bit_at x j * f n)) (field_sum_bit n x j f) ∙ sym (bit_times_xor x j (field_sum n f) (f n))

-- a bit in front of a product
pub product_bit : (x j a b : ℕ) → mul a (bit_at x j * b) ≡ bit_at x j * mul a b
product_bit x j a b = elim (bit_cases x j) [
  | inl e ↦ rw e (ap (mul a) (zero-mul b) ∙ product-zero a ∙ sym (zero-mul (mul a b)))
  | inr e ↦ rw e (ap (mul a) (one-mul b) ∙ sym (one-mul (mul a b)))
]

pub bit_product : (x j a b : ℕ) → mul (bit_at x j * a) b ≡ bit_at x j * mul a b
bit_product x j a b = elim (bit_cases x j) [
  | inl e ↦ rw e (ap (λ v. mul v b) (zero-mul a) ∙ zero-product b ∙ sym (zero-mul (mul a b)))
  | inr e ↦ rw e (ap (λ v. mul v b) (one-mul a) ∙ sym (one-mul (mul a b)))
]

-- Properties of a Cantor basis and of its subspace polynomials (Cantor 1989).

abbrev pub basis_at : ℕ → ℕ
basis_at i = get_or basis i 0

-- ---- points

test_basis : tested (λ i. ltb (basis_at i) 65536) 16 ≡ true
unfolding basis
test_basis = refl

bit_times-lt : (x i b : ℕ) → b < 65536 → bit_at x i * b < 65536
bit_times-lt x i b h = elim (bit_cases x i) [
  | inl e ↦ let e' : bit_at x i * b ≡ 0 = ap (λ c. c * b) e ∙ zero-mul b in omega arith
  | inr e ↦ let e' : bit_at x i * b ≡ b = ap (λ c. c * b) e ∙ one-mul b in omega arith
]

pub basis-lt : (i : ℕ) → basis_at i < 65536
unfolding basis
basis-lt i = elim (cases_lt i 16) [
  | inl h ↦ ltb-true (basis_at i) 65536 (tested_at (λ j. ltb (basis_at j) 65536) 16 i test_basis h)
  | inr h ↦ let e : basis_at i ≡ 0 = get_or_past basis i 0 h in omega arith
]

pub point-lt : (u : ℕ) → point u < 65536
unfolding point
point-lt u = field_sum-lt 16 (λ i. bit_at u i * basis_at i) (λ i. bit_times-lt u i (basis_at i) (basis-lt i))

pub point_linear : IsLinear point
unfolding point
point_linear = record {
  on_xor = λ u v.
      field_sum_same 16 (λ i. bit_at (bit_xor u v) i * basis_at i) (λ i. bit_xor (bit_at u i * basis_at i) (bit_at v i * basis_at i)) (λ i h. bit_xor_times u v i (basis_at i))
      ∙ field_sum_xor 16 (λ i. bit_at u i * basis_at i) (λ i. bit_at v i * basis_at i);
}

-- ---- numbers of points

test_numbers : tested (λ i. ltb (get_or bit_numbers i 0) 65536) 16 ≡ true
unfolding bit_numbers
test_numbers = refl

bit_numbers-lt : (i : ℕ) → get_or bit_numbers i 0 < 65536
unfolding bit_numbers
bit_numbers-lt i = elim (cases_lt i 16) [
  | inl h ↦ ltb-true (get_or bit_numbers i 0) 65536 (tested_at (λ j. ltb (get_or bit_numbers j 0) 65536) 16 i test_numbers h)
  | inr h ↦ let e : get_or bit_numbers i 0 ≡ 0 = get_or_past bit_numbers i 0 h in omega arith
]

pub point_number-lt : (x : ℕ) → point_number x < 65536
unfolding point_number
point_number-lt x = field_sum-lt 16 (λ i. bit_at x i * get_or bit_numbers i 0) (λ i. bit_times-lt x i (get_or bit_numbers i 0) (bit_numbers-lt i))

point_number_linear : IsLinear point_number
unfolding point_number
point_number_linear = record {
  on_xor = λ u v.
      field_sum_same 16 (λ i. bit_at (bit_xor u v) i * get_or bit_numbers i 0) (λ i. bit_xor (bit_at u i * get_or bit_numbers i 0) (bit_at v i * get_or bit_numbers i 0)) (λ i h. bit_xor_times u v i (get_or bit_numbers i 0))
      ∙ field_sum_xor 16 (λ i. bit_at u i * get_or bit_numbers i 0) (λ i. bit_at v i * get_or bit_numbers i 0);
}

test_point_numbers : tested (λ i. eqb (point (point_number (2 ^ i))) (2 ^ i)) 16 ≡ true
unfolding point point_number basis bit_numbers field_sum
test_point_numbers = refl

-- each element is a point
pub point_of_number : (x : ℕ) → x < 65536 → point (point_number x) ≡ x
point_of_number x h =
    bits_ind (λ y. point (point_number y) ≡ y)
    (ap point (linear-zero point_number point_number_linear) ∙ linear-zero point point_linear)
    (λ y z p q. ap point (point_number_linear.on_xor y z) ∙ point_linear.on_xor (point_number y) (point_number z) ∙ ap₂ bit_xor p q)
    16
    (λ i k. eqb-true (point (point_number (2 ^ i))) (2 ^ i) (tested_at (λ j. eqb (point (point_number (2 ^ j))) (2 ^ j)) 16 i test_point_numbers k))
    x h

-- the point whose number is half as large
half_point : ℕ → ℕ
half_point u = field_sum 16 (λ i. bit_at u (suc i) * basis_at i)

half_point_linear : IsLinear half_point
unfolding half_point
half_point_linear = record {
  on_xor = λ u v.
      field_sum_same 16 (λ i. bit_at (bit_xor u v) (suc i) * basis_at i) (λ i. bit_xor (bit_at u (suc i) * basis_at i) (bit_at v (suc i) * basis_at i)) (λ i h. bit_xor_times u v (suc i) (basis_at i))
      ∙ field_sum_xor 16 (λ i. bit_at u (suc i) * basis_at i) (λ i. bit_at v (suc i) * basis_at i);
}

half_is_half : (u : ℕ) → half_point u ≡ point (u / 2)
unfolding half_point point
half_is_half u = field_sum_same 16 (λ i. bit_at u (suc i) * basis_at i) (λ i. bit_at (u / 2) i * basis_at i) (λ i h. ap (λ b. b * basis_at i) (bit_at-suc u i))

-- ---- squares

pub square_xor : (a b : ℕ) → a < 65536 → b < 65536 → mul (bit_xor a b) (bit_xor a b) ≡ bit_xor (mul a a) (mul b b)
square_xor a b ha hb =
    (product_linear_left (bit_xor a b)).on_xor a b
    ∙ ap₂ bit_xor ((product_linear_right a).on_xor a b) ((product_linear_right b).on_xor a b)
    ∙ xor_assoc (mul a a) (mul a b) (bit_xor (mul b a) (mul b b))
    ∙ ap (bit_xor (mul a a)) (sym (xor_assoc (mul a b) (mul b a) (mul b b))
    ∙ ap (λ x. bit_xor x (mul b b)) (ap (bit_xor (mul a b)) (product_comm b a hb ha) ∙ xor_self (mul a b))
    ∙ xor_zero_l (mul b b))

-- an element and its square
abbrev artin : ℕ → ℕ
artin x = bit_xor (mul x x) x

artin_xor : (a b : ℕ) → a < 65536 → b < 65536 → artin (bit_xor a b) ≡ bit_xor (artin a) (artin b)
artin_xor a b ha hb =
    ap (λ x. bit_xor x (bit_xor a b)) (square_xor a b ha hb) ∙ xor_middle (mul a a) (mul b b) a b

test_artin : tested (λ i. eqb (artin (point (2 ^ i))) (half_point (2 ^ i))) 16 ≡ true
unfolding point half_point basis field_sum mul
test_artin = refl

-- the sum of a point and its square
pub point_artin : (u : ℕ) → u < 65536 → bit_xor (mul (point u) (point u)) (point u) ≡ point (u / 2)
point_artin u h =
    bits_ind (λ x. artin (point x) ≡ half_point x)
    (ap artin (linear-zero point point_linear) ∙ ap (λ x. bit_xor x 0) (zero-product 0) ∙ xor_zero_r 0 ∙ sym (linear-zero half_point half_point_linear))
    (λ x y p q. ap artin (point_linear.on_xor x y) ∙ artin_xor (point x) (point y) (point-lt x) (point-lt y) ∙ ap₂ bit_xor p q ∙ sym (half_point_linear.on_xor x y))
    16
    (λ i k. eqb-true (artin (point (2 ^ i))) (half_point (2 ^ i)) (tested_at (λ j. eqb (artin (point (2 ^ j))) (half_point (2 ^ j))) 16 i test_artin k))
    u h
    ∙ half_is_half u

-- ---- subspace polynomials

pub vanishing-lt : (i x : ℕ) → x < 65536 → vanishing i x < 65536
unfolding vanishing
vanishing-lt zero x h = h
vanishing-lt (suc i) x h = let l = vanishing-lt i x h in xor_lt 16 _ _ (product-lt (vanishing i x) (vanishing i x) l l) l

-- its value at a point is the point whose number lacks the i lowest bits
pub vanishing_point : (i u : ℕ) → u < 65536 → vanishing i (point u) ≡ point (u / 2 ^ i)
unfolding vanishing
vanishing_point zero u h = ap point (let e : u ≡ u / 2 ^ 0 = omega arith in e)
vanishing_point (suc i) u h =
    let so_far : vanishing i (point u) ≡ point (u / 2 ^ i) = vanishing_point i u h in
    let small : u / 2 ^ i < 65536 = omega (arith, div-le_self u (2 ^ i)) in
    ap artin so_far ∙ point_artin (u / 2 ^ i) small
    ∙ ap point (div-div-eq-div-mul u (2 ^ i) 2 ∙ ap (λ n. u / n) (sym (pow-suc 2 i)))

-- ---- the powers in a subspace polynomial

doubled_bit : (m j : ℕ) → bit_at (m * 2) (suc j) ≡ bit_at m j
doubled_bit m j = bit_at-suc (m * 2) j ∙ ap (λ n. bit_at n j) (let e : m * 2 / 2 ≡ m = omega arith in e)

power_once : (x : ℕ) → x < 65536 → pow x 1 ≡ x
unfolding pow
power_once x h = product-one x h

pub powers_in-lt : (i : ℕ) → powers_in i < 2 ^ suc i
unfolding powers_in
powers_in-lt zero = omega arith
powers_in-lt (suc i) =
    let small : powers_in i < 2 ^ suc i = powers_in-lt i in
    let more : 2 ^ suc (suc i) ≡ 2 ^ suc i * 2 = pow-suc 2 (suc i) in
    xor_lt (suc (suc i)) (powers_in i * 2) (powers_in i) (omega arith) (omega arith)

powers_in_top : (i : ℕ) → bit_at (powers_in i) i ≡ 1
unfolding powers_in
powers_in_top zero = refl
powers_in_top (suc i) =
    let high : bit_at (powers_in i * 2) (suc i) ≡ 1 = doubled_bit (powers_in i) i ∙ powers_in_top i in
    let low : bit_at (powers_in i) (suc i) ≡ 0 = bit_at_above (powers_in i) (suc i) (suc i) (powers_in-lt i) (omega arith) in
    bit_at_xor (powers_in i * 2) (powers_in i) (suc i) ∙ ap₂ (λ a b. (a + b) % 2) high low

-- the term of power 2 ^ j of x
abbrev term : ℕ → ℕ → ℕ → ℕ
term m x j = bit_at m j * pow x (2 ^ j)

square_bit_times : (m j y : ℕ) → mul (bit_at m j * y) (bit_at m j * y) ≡ bit_at m j * mul y y
square_bit_times m j y = elim (bit_cases m j) [
  | inl e ↦ rw e (ap (λ z. mul z z) (zero-mul y) ∙ zero-product 0 ∙ sym (zero-mul (mul y y)))
  | inr e ↦ rw e (ap (λ z. mul z z) (one-mul y) ∙ sym (one-mul (mul y y)))
]

square_sum : (n : ℕ) (f : ℕ → ℕ) → ((i : ℕ) → f i < 65536) → mul (field_sum n f) (field_sum n f) ≡ field_sum n (λ i. mul (f i) (f i))
unfolding field_sum
square_sum zero f small = zero-product 0
square_sum (suc n) f small =
    square_xor (field_sum n f) (f n) (field_sum-lt n f small) (small n) ∙ ap (λ s. bit_xor s (mul (f n) (f n))) (square_sum n f small)

power_double : (x j : ℕ) → x < 65536 → mul (pow x (2 ^ j)) (pow x (2 ^ j)) ≡ pow x (2 ^ suc j)
power_double x j h = sym (power-add x (2 ^ j) (2 ^ j) h) ∙ ap (pow x) (let e : 2 ^ suc j ≡ 2 ^ j * 2 = pow-suc 2 j in let f : 2 ^ j + 2 ^ j ≡ 2 ^ suc j = omega arith in f)

-- the square of a sum of n powers is the sum of the next ones
square_terms : (n m x : ℕ) → x < 65536 → mul (field_sum n (term m x)) (field_sum n (term m x)) ≡ field_sum (suc n) (term (m * 2) x)
square_terms n m x h =
    square_sum n (term m x) (λ j. bit_times-lt m j (pow x (2 ^ j)) (power-lt x (2 ^ j) h))
    ∙ field_sum_same n (λ j. mul (term m x j) (term m x j)) (λ j. term (m * 2) x (suc j))
    (λ j _. square_bit_times m j (pow x (2 ^ j)) ∙ ap₂ (λ a b. a * b) (sym (doubled_bit m j)) (power_double x j h))
    ∙ sym (field_sum_head n (term (m * 2) x) ∙ ap (λ s. bit_xor s (field_sum n (λ j. term (m * 2) x (suc j)))) first ∙ xor_zero_l _)
  where
    first : term (m * 2) x 0 ≡ 0
    first = ap (λ b. b * pow x (2 ^ 0)) (bit_at_lowest (m * 2) ∙ (let e : m * 2 % 2 ≡ 0 = omega arith in e)) ∙ zero-mul (pow x (2 ^ 0))

vanishing_terms : (i x : ℕ) → x < 65536 → vanishing i x ≡ field_sum (suc i) (term (powers_in i) x)
unfolding vanishing powers_in field_sum
vanishing_terms zero x h =
    let once : pow x 1 ≡ x = power_once x h in
    sym (xor_zero_l (1 * pow x 1) ∙ one-mul (pow x 1) ∙ once)
vanishing_terms (suc i) x h =
    let so_far : vanishing i x ≡ field_sum (suc i) (term (powers_in i) x) = vanishing_terms i x h in
    let none : term (powers_in i) x (suc i) ≡ 0 =
    ap (λ b. b * pow x (2 ^ suc i)) (bit_at_above (powers_in i) (suc i) (suc i) (powers_in-lt i) (omega arith)) ∙ zero-mul (pow x (2 ^ suc i)) in
    ap (λ v. bit_xor (mul v v) v) so_far
    ∙ ap₂ bit_xor (square_terms (suc i) (powers_in i) x h)
    (sym (ap (bit_xor (field_sum (suc i) (term (powers_in i) x))) none ∙ xor_zero_r (field_sum (suc i) (term (powers_in i) x))))
    ∙ sym (field_sum_xor (suc (suc i)) (term (powers_in i * 2) x) (term (powers_in i) x))
    ∙ sym (field_sum_same (suc (suc i)) (term (powers_in (suc i)) x) (λ j. bit_xor (term (powers_in i * 2) x j) (term (powers_in i) x j))
    (λ j _. bit_xor_times (powers_in i * 2) (powers_in i) j (pow x (2 ^ j))))

-- the powers below 2 ^ i
abbrev pub lower_powers : ℕ → ℕ → ℕ
lower_powers i x = field_sum i (λ j. bit_at (powers_in i) j * pow x (2 ^ j))

-- power 2 ^ i is the subspace polynomial plus the lower powers
pub leading_power : (i x : ℕ) → x < 65536 → pow x (2 ^ i) ≡ bit_xor (vanishing i x) (lower_powers i x)
unfolding field_sum
leading_power i x h =
    let top : term (powers_in i) x i ≡ pow x (2 ^ i) = ap (λ b. b * pow x (2 ^ i)) (powers_in_top i) ∙ one-mul (pow x (2 ^ i)) in
    sym (ap (λ v. bit_xor v (field_sum i (term (powers_in i) x)))
    (vanishing_terms i x h ∙ ap (bit_xor (field_sum i (term (powers_in i) x))) top ∙ xor_comm (field_sum i (term (powers_in i) x)) (pow x (2 ^ i)))
    ∙ xor_off (pow x (2 ^ i)) (field_sum i (term (powers_in i) x)))

-- Power sums over two cosets give those over both.

-- the term of a point in the sum of powers e
abbrev pub given : (ℕ → ℕ) → ℕ → ℕ → ℕ
given weight e u = mul (weight u) (pow (point u) e)

given-lt : (weight : ℕ → ℕ) → GivesElements weight → (e u : ℕ) → given weight e u < 65536
given-lt weight elements e u = product-lt (weight u) (pow (point u) e) (elements u) (power-lt (point u) e (point-lt u))

-- the term of a point in the sum of powers 2 ^ i + e, by subspace polynomial i
pub given_ahead : (weight : ℕ → ℕ) → GivesElements weight → (i e u : ℕ)
    → given weight (2 ^ i + e) u ≡ bit_xor (mul (vanishing i (point u)) (given weight e u)) (field_sum i (λ j. bit_at (powers_in i) j * given weight (e + 2 ^ j) u))
given_ahead weight elements i e u =
    let x : ℕ = point u in
    let w : ℕ = weight u in
    let hx : x < 65536 = point-lt u in
    let hw : w < 65536 = elements u in
    let he : pow x e < 65536 = power-lt x e hx in
    let hv : vanishing i x < 65536 = vanishing-lt i x hx in
    let parts : pow x (2 ^ i + e) ≡ bit_xor (mul (vanishing i x) (pow x e)) (mul (lower_powers i x) (pow x e)) =
    power-add x (2 ^ i) e hx ∙ ap (λ v. mul v (pow x e)) (leading_power i x hx) ∙ (product_linear_left (pow x e)).on_xor (vanishing i x) (lower_powers i x) in
    let first : mul w (mul (vanishing i x) (pow x e)) ≡ mul (vanishing i x) (mul w (pow x e)) =
    sym (product_assoc w (vanishing i x) (pow x e) hw hv he) ∙ ap (λ v. mul v (pow x e)) (product_comm w (vanishing i x) hw hv)
    ∙ product_assoc (vanishing i x) w (pow x e) hv hw he in
    let each : (j : ℕ) → mul w (mul (bit_at (powers_in i) j * pow x (2 ^ j)) (pow x e)) ≡ bit_at (powers_in i) j * mul w (pow x (e + 2 ^ j)) = λ j.
    ap (mul w) (bit_product (powers_in i) j (pow x (2 ^ j)) (pow x e)) ∙ product_bit (powers_in i) j w (mul (pow x (2 ^ j)) (pow x e))
    ∙ ap (λ v. bit_at (powers_in i) j * mul w v) (sym (power-add x (2 ^ j) e hx) ∙ ap (pow x) (let s : 2 ^ j + e ≡ e + 2 ^ j = omega arith in s)) in
    let second : mul w (mul (lower_powers i x) (pow x e)) ≡ field_sum i (λ j. bit_at (powers_in i) j * mul w (pow x (e + 2 ^ j))) =
    ap (mul w) (sym (field_sum_linear i (λ y. mul y (pow x e)) (λ j. bit_at (powers_in i) j * pow x (2 ^ j)) (product_linear_left (pow x e))))
    ∙ sym (field_sum_scaled i w (λ j. mul (bit_at (powers_in i) j * pow x (2 ^ j)) (pow x e)))
    ∙ field_sum_same i (λ j. mul w (mul (bit_at (powers_in i) j * pow x (2 ^ j)) (pow x e))) (λ j. bit_at (powers_in i) j * mul w (pow x (e + 2 ^ j))) (λ j h. each j) in
    ap (mul w) parts ∙ (product_linear_right w).on_xor (mul (vanishing i x) (pow x e)) (mul (lower_powers i x) (pow x e)) ∙ ap₂ bit_xor first second

-- the sum over n numbers from a on
abbrev sum_from : (ℕ → ℕ) → ℕ → ℕ → ℕ → ℕ
sum_from weight a n e = field_sum n (λ u. given weight e (a + u))

-- a run of numbers on whose points the subspace polynomial is constant
sum_ahead_from : (weight : ℕ → ℕ) → GivesElements weight → (i e a n c : ℕ) → ((u : ℕ) → u < n → vanishing i (point (a + u)) ≡ c)
    → sum_from weight a n (2 ^ i + e) ≡ bit_xor (mul c (sum_from weight a n e)) (field_sum i (λ j. bit_at (powers_in i) j * sum_from weight a n (e + 2 ^ j)))
sum_ahead_from weight elements i e a n c same =
    field_sum_same n (λ u. given weight (2 ^ i + e) (a + u))
    (λ u. bit_xor (mul c (given weight e (a + u))) (field_sum i (λ j. bit_at (powers_in i) j * given weight (e + 2 ^ j) (a + u))))
    (λ u h. given_ahead weight elements i e (a + u)
    ∙ ap (λ v. bit_xor (mul v (given weight e (a + u))) (field_sum i (λ j. bit_at (powers_in i) j * given weight (e + 2 ^ j) (a + u)))) (same u h))
    ∙ field_sum_xor n (λ u. mul c (given weight e (a + u))) (λ u. field_sum i (λ j. bit_at (powers_in i) j * given weight (e + 2 ^ j) (a + u)))
    ∙ ap₂ bit_xor (field_sum_scaled n c (λ u. given weight e (a + u)))
    (field_sum_swap n i (λ u j. bit_at (powers_in i) j * given weight (e + 2 ^ j) (a + u))
    ∙ field_sum_same i (λ j. field_sum n (λ u. bit_at (powers_in i) j * given weight (e + 2 ^ j) (a + u))) (λ j. bit_at (powers_in i) j * sum_from weight a n (e + 2 ^ j))
    (λ j h. field_sum_bit n (powers_in i) j (λ u. given weight (e + 2 ^ j) (a + u))))

-- ---- two cosets

-- the subspace polynomial is constant on a coset, and the number of the coset determines its value
pub vanishing_on : (i q u : ℕ) → u < 2 ^ i → q * 2 ^ i + u < 65536 → vanishing i (point (member i q u)) ≡ point q
vanishing_on i q u h fits = vanishing_point i (member i q u) fits ∙ ap point (div-mul-add q (2 ^ i) u h)

twice : (q h : ℕ) → q * (h * 2) ≡ 2 * q * h
twice q h = sym (mul_assoc q h 2) ∙ mul_comm (q * h) 2 ∙ sym (mul_assoc 2 q h)

-- the first numbers of the cosets of a pair
pub first_half : (i q : ℕ) → q * 2 ^ suc i ≡ 2 * q * 2 ^ i
first_half i q = ap (λ n. q * n) (pow-suc 2 i) ∙ twice q (2 ^ i)

pub second_half : (i q : ℕ) → q * 2 ^ suc i + 2 ^ i ≡ (2 * q + 1) * 2 ^ i
second_half i q = ap (λ n. n + 2 ^ i) (first_half i q) ∙ sym (add-mul (2 * q) 1 (2 ^ i) ∙ ap (λ n. 2 * q * 2 ^ i + n) (one-mul (2 ^ i)))

point_one : point 1 ≡ 1
unfolding point basis field_sum
point_one = refl

odd : (q : ℕ) → 2 * q + 1 ≡ bit_xor (2 * q) 1
odd q = sym (ap (λ n. bit_xor n 1) (mul_comm 2 q) ∙ xor_shifted q 1 1 (omega arith) ∙ ap (λ n. n + 1) (mul_comm q 2))

-- one more than an even number
pub point_odd : (q : ℕ) → point (2 * q + 1) ≡ bit_xor (point (2 * q)) 1
point_odd q = ap point (odd q) ∙ point_linear.on_xor (2 * q) 1 ∙ ap (bit_xor (point (2 * q))) point_one

-- the weighted sum of powers over a coset, of weights that are numbered through all points
abbrev pub over : (ℕ → ℕ) → ℕ → ℕ → ℕ → ℕ
over weight i q e = power_sum i q (from (q * 2 ^ i) weight) e

abbrev halves : (ℕ → ℕ) → ℕ → ℕ → ℕ → ℕ
halves weight i q e = bit_xor (over weight i (2 * q) e) (over weight i (2 * q + 1) e)

pub power_sum_halves : (weight : ℕ → ℕ) (i q e : ℕ) → over weight (suc i) q e ≡ halves weight i q e
unfolding power_sum
power_sum_halves weight i q e =
    ap (λ n. field_sum n (λ u. given weight e (q * 2 ^ suc i + u))) (let s : 2 ^ suc i ≡ 2 ^ i * 2 = pow-suc 2 i in let f : 2 ^ suc i ≡ 2 ^ i + 2 ^ i = omega arith in f)
    ∙ field_sum_join (2 ^ i) (2 ^ i) (λ u. given weight e (q * 2 ^ suc i + u))
    ∙ ap₂ bit_xor
    (field_sum_same (2 ^ i) (λ u. given weight e (q * 2 ^ suc i + u)) (λ u. given weight e (2 * q * 2 ^ i + u)) (λ u h. ap (λ n. given weight e (n + u)) (first_half i q)))
    (field_sum_same (2 ^ i) (λ u. given weight e (q * 2 ^ suc i + (2 ^ i + u))) (λ u. given weight e ((2 * q + 1) * 2 ^ i + u))
    (λ u h. ap (given weight e) (sym (add_assoc (q * 2 ^ suc i) (2 ^ i) u) ∙ ap (λ n. n + u) (second_half i q))))

-- the sums of higher powers, from those of the second coset and of lower powers
pub power_sum_ahead : (weight : ℕ → ℕ) → GivesElements weight → (i q e : ℕ) → suc q * 2 ^ suc i ≤ 65536
    → over weight (suc i) q (2 ^ i + e)
    ≡ bit_xor (over weight i (2 * q + 1) e)
    (bit_xor (mul (point (2 * q)) (over weight (suc i) q e)) (sum_ahead i (over weight (suc i) q) e))
unfolding power_sum
power_sum_ahead weight elements i q e fits =
    let p : ℕ = 2 ^ i in
    let c : ℕ = point (2 * q) in
    let low : ℕ → ℕ = over weight i (2 * q) in
    let high : ℕ → ℕ = over weight i (2 * q + 1) in
    let both : ℕ → ℕ = over weight (suc i) q in
    let bits : ℕ → ℕ = λ j. bit_at (powers_in i) j in
    let end : suc q * 2 ^ suc i ≡ (2 * q + 1) * 2 ^ i + 2 ^ i = ends i q in
    let at_low : low (2 ^ i + e) ≡ bit_xor (mul c (low e)) (sum_ahead i low e) =
    sum_ahead_from weight elements i e (2 * q * 2 ^ i) (2 ^ i) c (λ u h. vanishing_on i (2 * q) u h (omega (arith, second_half i q, first_half i q))) in
    let at_high : high (2 ^ i + e) ≡ bit_xor (mul (point (2 * q + 1)) (high e)) (sum_ahead i high e) =
    sum_ahead_from weight elements i e ((2 * q + 1) * 2 ^ i) (2 ^ i) (point (2 * q + 1)) (λ u h. vanishing_on i (2 * q + 1) u h (omega arith)) in
    let small : high e < 65536 = field_sum-lt (2 ^ i) (λ u. given weight e ((2 * q + 1) * 2 ^ i + u)) (λ u. given-lt weight elements e ((2 * q + 1) * 2 ^ i + u)) in
    let odd_part : mul (point (2 * q + 1)) (high e) ≡ bit_xor (mul c (high e)) (high e) =
    ap (λ v. mul v (high e)) (point_odd q) ∙ (product_linear_left (high e)).on_xor c 1
    ∙ ap (bit_xor (mul c (high e))) (product_comm 1 (high e) (omega arith) small ∙ product-one (high e) small) in
    let ahead : bit_xor (sum_ahead i low e) (sum_ahead i high e) ≡ sum_ahead i both e =
    sym (field_sum_xor i (λ j. bits j * low (e + 2 ^ j)) (λ j. bits j * high (e + 2 ^ j)))
    ∙ field_sum_same i (λ j. bit_xor (bits j * low (e + 2 ^ j)) (bits j * high (e + 2 ^ j))) (λ j. bits j * both (e + 2 ^ j))
    (λ j h. sym (bit_times_xor (powers_in i) j (low (e + 2 ^ j)) (high (e + 2 ^ j))) ∙ ap (λ v. bits j * v) (sym (power_sum_halves weight i q (e + 2 ^ j)))) in
    power_sum_halves weight i q (2 ^ i + e)
    ∙ ap₂ bit_xor at_low (at_high ∙ ap (λ v. bit_xor v (sum_ahead i high e)) odd_part)
    ∙ gather (mul c (low e)) (sum_ahead i low e) (mul c (high e)) (high e) (sum_ahead i high e)
    ∙ ap (bit_xor (high e)) (ap₂ bit_xor (sym ((product_linear_right c).on_xor (low e) (high e)) ∙ ap (mul c) (sym (power_sum_halves weight i q e))) ahead)
  where
    gather : (a s b h t : ℕ) → bit_xor (bit_xor a s) (bit_xor (bit_xor b h) t) ≡ bit_xor h (bit_xor (bit_xor a b) (bit_xor s t))
    gather a s b h t =
        ap (λ v. bit_xor (bit_xor a s) (bit_xor v t)) (xor_comm b h) ∙ ap (bit_xor (bit_xor a s)) (xor_assoc h b t)
        ∙ sym (xor_assoc (bit_xor a s) h (bit_xor b t)) ∙ ap (λ v. bit_xor v (bit_xor b t)) (xor_comm (bit_xor a s) h)
        ∙ xor_assoc h (bit_xor a s) (bit_xor b t) ∙ ap (bit_xor h) (xor_middle a s b t)

    ends : (i q : ℕ) → suc q * 2 ^ suc i ≡ (2 * q + 1) * 2 ^ i + 2 ^ i
    ends i q =
        let a : suc q * 2 ^ suc i ≡ q * 2 ^ suc i + 2 ^ suc i = ap (λ n. n * 2 ^ suc i) (let s : suc q ≡ q + 1 = omega arith in s) ∙ add-mul q 1 (2 ^ suc i) ∙ ap (λ n. q * 2 ^ suc i + n) (one-mul (2 ^ suc i)) in
        let b : 2 ^ suc i ≡ 2 ^ i * 2 = pow-suc 2 i in
        let c : q * 2 ^ suc i + 2 ^ i ≡ (2 * q + 1) * 2 ^ i = second_half i q in
        omega arith

-- ---- merging

-- power sums over two cosets, merged, are the power sums over both
pub merged_power_sums : (weight : ℕ → ℕ) → GivesElements weight → (i q : ℕ) (split merged : ℕ → ℕ) → suc q * 2 ^ suc i ≤ 65536
    → IsMerged i (point (2 * q)) split merged
    → ((e : ℕ) → e < 2 ^ i → split e ≡ over weight i (2 * q) e) → ((e : ℕ) → e < 2 ^ i → split (2 ^ i + e) ≡ over weight i (2 * q + 1) e)
    → (e : ℕ) → e < 2 ^ suc i → merged e ≡ over weight (suc i) q e
merged_power_sums weight elements i q split merged fits is low high e h = below (suc e) e (omega arith) h
  where
    both : ℕ → ℕ
    both = over weight (suc i) q

    below : (n e : ℕ) → e < n → e < 2 ^ suc i → merged e ≡ both e
    below zero e k h = absurd (omega arith)
    below (suc n) e k h = elim (cases_lt e (2 ^ i)) [
      | inl first ↦ is.low e first ∙ ap₂ bit_xor (low e first) (high e first) ∙ sym (power_sum_halves weight i q e)
      | inr second ↦
          let d : ℕ = e - 2 ^ i in
          let p : 0 < 2 ^ i = pow_pos i in
          let whole : 2 ^ suc i ≡ 2 ^ i * 2 = pow-suc 2 i in
          let at : e ≡ 2 ^ i + d = omega arith in
          let less : d < 2 ^ i = omega arith in
          ap merged at ∙ is.high d less
          ∙ ap₂ bit_xor (high d less) (ap₂ bit_xor (ap (mul (point (2 * q))) (below n d (omega arith) (omega arith)))
          (field_sum_same i (λ j. bit_at (powers_in i) j * merged (d + 2 ^ j)) (λ j. bit_at (powers_in i) j * both (d + 2 ^ j))
          (λ j l. ap (λ v. bit_at (powers_in i) j * v) (below n (d + 2 ^ j) (omega (arith, pow-lt l)) (omega (arith, pow-lt l))))))
          ∙ sym (power_sum_ahead weight elements i q d fits) ∙ ap both (sym at)
    ]
