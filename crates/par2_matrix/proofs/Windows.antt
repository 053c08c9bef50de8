-- The holes between exponents: their equations, sequences that satisfy the locator's recurrence, and the kept exponents.
use Rattle.par2_matrix.proofs.Common.{zero-add, by_either, rules, ℕ, zero, suc, ◌+◌, ◌-◌, ◌^◌, ◌<◌, ◌≤◌, ◌≡◌, refl, sym, ap, ap₂, ◌∙◌, ◌↔◌, subst, arith, Bool, true, false, cond, not, List, [], ◌∷◌, ◌++◌, length, get_or, map, filter, take, append-nil, bit_xor, xor_comm, xor_assoc, xor_zero_l, xor_zero_r, AllByRecursion, Contains, range_with_len, IsStrictlyIncreasing, Result, Ok, cases_lt, eqb-true, lt-ltb, le-ltb, false_from_ne_true, length-map, get_or-map, get_or-range_with_len, get_or-map-range_with_len, length-map-range_with_len, length-range_with_len, map-range_with_len_more, Contains-get_or, mul, constant, pow, coefficient, coefficients, dot, field_sum, dot_sum, product_at, dot-lt, coefficients_are, field_sum_same, field_sum_none, product-zero, zero-product, IsVector, IsRepairable, Kills, AreSlices, value, with_roots_elements, length-with_roots, all_at, all_get, all_from, all_unmap, all-each, run_determines, Equations, CutDown, OnlyZeroIsKilled, AreSolutionBuffers, combination, ◌*◌, AreByteRows, IsTheSolution, get_or-take, get_or_past, length-take-le, product_comm, product-one, field_sum_head, GivesElements, ext_get_or, kept, is_independent, IsOk, MatchResult, is_ok, Err, nat_eq, map-id, take-take, filter-append, nat_eq_equiv, IsStrictlyIncreasing-filter, not-false, not-true, Contains-from_any, any-filter_same, list_any-from_Contains, list_any, count_by-le-length, length-filter, of_contained, all-passing, all-take, full-iff, with_roots_zero, range_rises, xor_same, AreHoleEquations, IsUnit, OnlyZeroFits, holes, is_hole, locator, shifted, shifted_at, span, AreHoleInverse}
use Rattle.par2_matrix.proofs.Combinations.{coefficients-lt, combined, row_read, row_vector, unit_product}
use Rattle.par2_matrix.proofs.Ranks.{is_kept, is_kept_at}
use Rattle.par2_matrix.proofs.RunInverses.{rises_between, placed, rises_to_the_end, take_rises, range_has, run_sum_is, constants-lt, constant_at}

-- ---- a polynomial times a power of z

pub below : (p : List ℕ) (u x : ℕ) → x < u → shifted_at p u x ≡ 0
below p u x low = ap (λ b. cond b 0 (get_or p (x - u) 0)) (lt-ltb x u low)

from : (p : List ℕ) (u k : ℕ) → shifted_at p u (u + k) ≡ get_or p k 0
from p u k =
    let e : u + k - u ≡ k = omega arith in
    ap (λ b. cond b 0 (get_or p (u + k - u) 0)) (le-ltb (u + k) u (omega arith)) ∙ ap (λ n. get_or p n 0) e

-- leading or trailing zeros can be left out of a sum
leading : (u n : ℕ) (f : ℕ → ℕ) → ((x : ℕ) → x < u → f x ≡ 0) → field_sum (u + n) f ≡ field_sum n (λ k. f (u + k))
unfolding field_sum
leading u zero f none = ap (λ m. field_sum m f) (let e : u + 0 ≡ u = omega arith in e) ∙ field_sum_none u f none
leading u (suc n) f none = ap (λ m. field_sum m f) (let e : u + suc n ≡ suc (u + n) = omega arith in e) ∙ ap (λ s. bit_xor s (f (u + n))) (leading u n f none)

trailing : (n r : ℕ) (f : ℕ → ℕ) → ((i : ℕ) → f (n + i) ≡ 0) → field_sum (n + r) f ≡ field_sum n f
unfolding field_sum
trailing n zero f none = ap (λ m. field_sum m f) (let e : n + 0 ≡ n = omega arith in e)
trailing n (suc r) f none =
    ap (λ m. field_sum m f) (let e : n + suc r ≡ suc (n + r) = omega arith in e) ∙ ap₂ bit_xor (trailing n r f none) (none r) ∙ xor_zero_r (field_sum n f)

-- a sum over a window, by index
pub window_dot : (a g : ℕ → ℕ) (w : ℕ) → dot (map a (range_with_len 0 w)) (map g (range_with_len 0 w)) ≡ field_sum w (λ y. mul (a y) (g y))
window_dot a g w =
    dot_sum w (map a (range_with_len 0 w)) (map g (range_with_len 0 w)) (omega (arith, length-map-range_with_len a 0 w))
    ∙ field_sum_same w (product_at (map a (range_with_len 0 w)) (map g (range_with_len 0 w))) (λ y. mul (a y) (g y)) (λ i low. let at : 0 + i ≡ i = omega arith in
    ap₂ mul (get_or-map-range_with_len a 0 w i i 0 low at) (get_or-map-range_with_len g 0 w i i 0 low at))

-- over a whole window it gives the products of the polynomial's coefficients
pub shifted_sum : (p : List ℕ) (u w : ℕ) (g : ℕ → ℕ) → u + length p ≤ w
    → dot (shifted p u (range_with_len 0 w)) (map g (range_with_len 0 w)) ≡ field_sum (length p) (λ k. mul (get_or p k 0) (g (u + k)))
shifted_sum p u w g h =
    let n : ℕ = length p in
    let r : ℕ = w - (u + length p) in
    let f : ℕ → ℕ = λ x. mul (shifted_at p u x) (g x) in
    window_dot (shifted_at p u) g w
    ∙ ap (λ m. field_sum m f) (let e : w ≡ u + (n + r) = omega (arith, h) in e)
    ∙ leading u (n + r) f (λ i low. ap (λ x. mul x (g i)) (below p u i low) ∙ zero-product (g i))
    ∙ trailing n r (λ k. f (u + k)) (λ i. ap (λ x. mul x (g (u + (n + i)))) (from p u (n + i) ∙ get_or_past p (n + i) 0 (omega arith)) ∙ zero-product (g (u + (n + i))))
    ∙ field_sum_same n (λ k. f (u + k)) (λ k. mul (get_or p k 0) (g (u + k))) (λ k _. ap (λ x. mul x (g (u + k))) (from p u k))

-- a sum over some numbers is that over those that pass a test plus that over the others
pub parted : (a g : ℕ → ℕ) (t : ℕ → Bool) (xs : List ℕ)
    → dot (map a xs) (map g xs) ≡ bit_xor (dot (map a (filter t xs)) (map g (filter t xs))) (dot (map a (filter (λ x. not (t x)) xs)) (map g (filter (λ x. not (t x)) xs)))
unfolding dot
parted a g t [] = sym (xor_zero_l 0)
parted a g t (x ∷ xs) = ap (bit_xor (mul (a x) (g x))) (parted a g t xs) ∙ step (t x)
  where
    ys : List ℕ
    ys = filter t xs

    zs : List ℕ
    zs = filter (λ x. not (t x)) xs

    step : (b : Bool) → bit_xor (mul (a x) (g x)) (bit_xor (dot (map a ys) (map g ys)) (dot (map a zs) (map g zs)))
        ≡ bit_xor (dot (map a (cond b (x ∷ ys) ys)) (map g (cond b (x ∷ ys) ys))) (dot (map a (cond (not b) (x ∷ zs) zs)) (map g (cond (not b) (x ∷ zs) zs)))
    step true = sym (xor_assoc (mul (a x) (g x)) (dot (map a ys) (map g ys)) (dot (map a zs) (map g zs)))
    step false =
        sym (xor_assoc (mul (a x) (g x)) (dot (map a ys) (map g ys)) (dot (map a zs) (map g zs)))
        ∙ ap (λ s. bit_xor s (dot (map a zs) (map g zs))) (xor_comm (mul (a x) (g x)) (dot (map a ys) (map g ys)))
        ∙ xor_assoc (dot (map a ys) (map g ys)) (mul (a x) (g x)) (dot (map a zs) (map g zs))

pub none_given : (a g : ℕ → ℕ) (xs : List ℕ) → AllByRecursion (λ x. g x ≡ 0) xs → dot (map a xs) (map g xs) ≡ 0
unfolding dot
none_given a g [] h = refl
none_given a g (x ∷ xs) h = ap₂ bit_xor (ap (mul (a x)) h.0 ∙ product-zero (a x)) (none_given a g xs h.1)

-- ---- sums of powers satisfy the recurrence of the locator

-- what an exponent gives a vector: the sum of the constants' powers times the vector's elements
abbrev pub given : List ℕ → List ℕ → ℕ → ℕ
given ks v e = dot (coefficients ks e) v

pub recurrence : (ks v : List ℕ) (s : ℕ) → AllByRecursion (λ x. x < 2 ^ 16) v → field_sum (length (locator ks)) (λ t. mul (get_or (locator ks) t 0) (given ks v (s + t))) ≡ 0
recurrence ks v s is =
    let n : ℕ = length ks in
    let m : ℕ = length (locator ks) in
    let p : ℕ → ℕ = λ t. get_or (locator ks) t 0 in
    let a : ℕ → ℕ → ℕ = λ t i. get_or (coefficients ks (s + t)) i 0 in
    let y : ℕ → ℕ = λ i. get_or v i 0 in
    let elements : AllByRecursion (λ x. x < 2 ^ 16) (locator ks) = with_roots_elements (map constant ks) (constants-lt ks) in
    let root : (i : ℕ) → i < length ks → value (locator ks) (constant (get_or ks i 0)) ≡ 0 = λ i low. subst (λ c. value (locator ks) c ≡ 0) (constant_at ks i low)
    (all_get (λ z. value (locator ks) z ≡ 0) (map constant ks) i 0 (let long = length-map ks constant in omega (arith, long, low)) (with_roots_zero (map constant ks) (constants-lt ks))) in
    let column : (i : ℕ) → i < n → field_sum m (λ t. mul (p t) (a t i)) ≡ 0 = λ i low.
    let k = get_or ks i 0 in
    field_sum_same m (λ t. mul (p t) (a t i)) (λ t. mul (p t) (coefficient (s + t) k)) (λ t _. ap (mul (p t)) (get_or-map (coefficient (s + t)) ks i 0 0 low))
    ∙ run_sum_is (locator ks) s k elements ∙ ap (mul (pow (constant k) s)) (root i low) ∙ product-zero (pow (constant k) s) in
    field_sum_same m (λ t. mul (p t) (given ks v (s + t))) (λ t. mul (p t) (field_sum n (λ i. mul (a t i) (y i))))
    (λ t _. ap (mul (p t)) (dot_sum n (coefficients ks (s + t)) v (let long = length-map ks (coefficient (s + t)) in omega (arith, long))))
    ∙ combined m n p a y (all_at (λ x. x < 65536) 0 (omega arith) (locator ks) elements) (λ t _. coefficients-lt ks (s + t)) (all_at (λ x. x < 65536) 0 (omega arith) v is)
    ∙ field_sum_none n (λ i. mul (field_sum m (λ t. mul (p t) (a t i))) (y i)) (λ i low. ap (λ x. mul x (y i)) (column i low) ∙ zero-product (y i))

-- ---- the holes

-- whether a number is among these
abbrev pub among : List ℕ → ℕ → Bool
among es q = list_any (nat_eq q) es

among-iff : (es : List ℕ) (q : ℕ) → (among es q ≡ true) ↔ Contains es q
among-iff es q = (Contains-from_any {eq = nat_eq} eqb-true q es, list_any-from_Contains nat_eq_equiv q es)

-- the last exponent is at the end of the window, which is no hole
last_at : (es : List ℕ) → IsStrictlyIncreasing es → 0 < length es → is_hole es (span es) ≡ false
last_at es rise some =
    let e : get_or es (length es - 1) 0 ≡ get_or es 0 0 + span es = omega (arith, rises_to_the_end es rise some) in
    ap not ((among-iff es (get_or es 0 0 + span es)).1 (subst (Contains es) e (Contains-get_or es (length es - 1) 0 (omega (arith, some)))))

range_more : (n : ℕ) → range_with_len 0 (n + 1) ≡ range_with_len 0 n ++ n ∷ []
range_more n = sym (map-id (range_with_len 0 (n + 1))) ∙ map-range_with_len_more (λ x. x) 0 n n (omega arith) ∙ ap (λ xs. xs ++ n ∷ []) (map-id (range_with_len 0 n))

pub holes_of_window : (es : List ℕ) → IsStrictlyIncreasing es → 0 < length es → filter (is_hole es) (range_with_len 0 (span es + 1)) ≡ holes es
holes_of_window es rise some =
    ap (filter (is_hole es)) (range_more (span es)) ∙ filter-append (is_hole es) (range_with_len 0 (span es)) (span es ∷ [])
    ∙ ap (λ b. holes es ++ cond b (span es ∷ []) []) (last_at es rise some) ∙ append-nil (holes es)

pub one_place_more : (es : List ℕ) (x : ℕ) (b : Bool) → b ≡ is_hole es x → filter (is_hole es) (range_with_len 0 (x + 1)) ≡ filter (is_hole es) (range_with_len 0 x) ++ cond b (x ∷ []) []
one_place_more es x b is =
    ap (filter (is_hole es)) (range_more x) ∙ filter-append (is_hole es) (range_with_len 0 x) (x ∷ [])
    ∙ ap (λ c. filter (is_hole es) (range_with_len 0 x) ++ cond c (x ∷ []) []) (sym is)

pub window_holds : (es : List ℕ) → IsStrictlyIncreasing es → length es ≤ span es + 1
window_holds [] rise = omega arith
window_holds (e ∷ es) rise = let by = rises_between (e ∷ es) rise 0 (length (e ∷ es) - 1) (omega arith) (omega arith) in omega (arith, by)

-- a binary search finds what is there
pub found_among : (es : List ℕ) (q : ℕ) (r : Result ℕ ℕ)
    → MatchResult r (λ i. (i < length es) × (get_or es i 0 ≡ q)) (λ i. (i ≤ length es) × ((k : ℕ) → k < i → get_or es k 0 < q) × ((k : ℕ) → i ≤ k → k < length es → q < get_or es k 0))
    → is_ok r ≡ among es q
found_among es q (Ok i) h = sym ((among-iff es q).1 (subst (Contains es) h.1 (Contains-get_or es i 0 h.0)))
found_among es q (Err i) h =
    sym (false_from_ne_true (among es q) (λ e.
    let at = placed es q ((among-iff es q).0 e) in
    grind (arith, cases_lt at.0 i, h.1 at.0, h.2 at.0, at.1, at.2)))

-- a number that is contained is found
pub found_place : (hs : List ℕ) (x : ℕ) (r : Result ℕ ℕ)
    → MatchResult r (λ i. (i < length hs) × (get_or hs i 0 ≡ x)) (λ i. (i ≤ length hs) × ((k : ℕ) → k < i → get_or hs k 0 < x) × ((k : ℕ) → i ≤ k → k < length hs → x < get_or hs k 0))
    → Contains hs x → IsOk r
found_place hs x (Ok i) h here = search rules
found_place hs x (Err i) h here =
    let at = placed hs x here in
    by_either (cases_lt at.0 i) (λ low. (let less = h.1 at.0 low in absurd (omega (arith, less, at.2)))) (λ high. (let more = h.2 at.0 high at.1 in absurd (omega (arith, more, at.2))))

-- a contained number that passes a test is among those that pass
contained_filter : (t : ℕ → Bool) (xs : List ℕ) (x : ℕ) → Contains xs x → t x ≡ true → Contains (filter t xs) x
contained_filter t xs x here e = (among-iff (filter t xs) x).0 (any-filter_same (nat_eq x) t true (λ y same. ap t (sym (eqb-true x y same)) ∙ e) xs ∙ (among-iff xs x).1 here)

pub hole_contained : (es : List ℕ) (x : ℕ) → IsStrictlyIncreasing es → 0 < length es → x ≤ span es → is_hole es x ≡ true → Contains (holes es) x
hole_contained es x rise some within e =
    subst (λ hs. Contains hs x) (holes_of_window es rise some)
    (contained_filter (is_hole es) (range_with_len 0 (span es + 1)) x (subst (Contains (range_with_len 0 (span es + 1))) (zero-add x) (range_has 0 (span es + 1) x (omega (arith, within)))) e)

pub holes_rise : (es : List ℕ) → IsStrictlyIncreasing (holes es)
holes_rise es = IsStrictlyIncreasing-filter (is_hole es) (range_with_len 0 (span es)) (range_rises 0 (span es))

-- ---- the system

pub one_equation_more : (p places row right : List ℕ) (m u : ℕ) (old new : Equations) → AreHoleEquations p places m u old → new.columns ≡ old.columns → new.bytes ≡ old.bytes → row ≡ shifted p u places → (u < m → IsUnit m u right)
    → CutDown old new row right → AreHoleEquations p places m (u + 1) new
one_equation_more p places row right m u old new before columns bytes is unit cut = record {
  columns = columns ∙ before.columns;
  bytes = bytes ∙ before.bytes;
  kills = λ v vector fits.
      (cut.kills v (subst (λ n. IsVector n v) (sym before.columns) vector)).1
      (before.kills v vector (λ k low. fits k (omega (arith, low))), ap (λ xs. dot xs v) is ∙ fits u (omega arith));
  solves = λ buffers are solved k low inside.
      let are_old : AreSolutionBuffers old buffers = record {
        count = are.count ∙ columns;
        sizes = subst (λ n. AllByRecursion (λ (content : List ℕ). length content ≡ n) buffers) bytes are.sizes;
        bytes = are.bytes;
      } in
      let both = (cut.solves buffers are_old).0 solved in
      by_either (cases_lt k u)
      (λ early. before.solves buffers are_old both.0 k early inside)
      (λ late.
      let last : u ≡ k = omega (arith, low, late) in
      subst (λ j. IsUnit m j (combination (2 * m) (shifted p j places) buffers)) last
      (subst (IsUnit m u) (sym (ap₂ (λ b xs. combination b xs buffers) (sym before.bytes) (sym is) ∙ both.1)) (unit (omega (arith, last, inside)))));
}

pub only_zero_fits : (p places : List ℕ) (m n : ℕ) (system : Equations) → AreHoleEquations p places m n system → OnlyZeroIsKilled system → OnlyZeroFits p places n
only_zero_fits p places m n system are regular v vector fits =
    regular v (subst (λ m. IsVector m v) (sym are.columns) vector) (are.kills v vector fits)

-- ---- the exponents determine the lost slices

-- what holds of each item that passes a test holds of all that a filter leaves
pub filter_all : (P : ℕ → Type 0) (t : ℕ → Bool) (xs : List ℕ) → AllByRecursion (λ x. t x ≡ true → P x) xs → AllByRecursion P (filter t xs)
filter_all P t = all-passing (λ x. t x ≡ true → P x) P t (λ x h. h)

pub range_all : (P : ℕ → Type 0) (n : ℕ) → ((x : ℕ) → x < n → P x) → AllByRecursion P (range_with_len 0 n)
range_all P n h = all_from P 0 (range_with_len 0 n) (λ i low.
    let here : i < n = omega (arith, low, length-range_with_len 0 n) in
    subst P (sym (get_or-range_with_len 0 n i 0 here)) (h (0 + i) (omega (arith, here))))

-- the place of a hole
pub hole_place : (es : List ℕ) (q : ℕ) → q < length (holes es) → (get_or (holes es) q 0 < span es) × (is_hole es (get_or (holes es) q 0) ≡ true)
hole_place es q low =
    let P = λ (x : ℕ). (x < span es) × (is_hole es x ≡ true) in
    all_get P (holes es) q 0 low (filter_all P (is_hole es) (range_with_len 0 (span es)) (range_all (λ x. is_hole es x ≡ true → P x) (span es) (λ x hx e. (hx, e))))

-- the places of a window that are no holes
abbrev pub others : List ℕ → List ℕ
others es = filter (λ x. not (is_hole es x)) (range_with_len 0 (span es + 1))

-- a sum over the window is that over the holes plus that over the others
pub window_parted : (es : List ℕ) (a g : ℕ → ℕ) → IsStrictlyIncreasing es → 0 < length es
    → dot (map a (range_with_len 0 (span es + 1))) (map g (range_with_len 0 (span es + 1))) ≡ bit_xor (dot (map a (holes es)) (map g (holes es))) (dot (map a (others es)) (map g (others es)))
window_parted es a g rise some =
    parted a g (is_hole es) (range_with_len 0 (span es + 1))
    ∙ ap (λ hs. bit_xor (dot (map a hs) (map g hs)) (dot (map a (others es)) (map g (others es)))) (holes_of_window es rise some)

-- a number that is no hole is an exponent
pub no_hole : (es : List ℕ) (x : ℕ) → is_hole es x ≡ false → Contains es (get_or es 0 0 + x)
no_hole es x e = (among-iff es (get_or es 0 0 + x)).0 (not-false (among es (get_or es 0 0 + x)) e)

pub exponent_no_hole : (es : List ℕ) (x : ℕ) → Contains es (get_or es 0 0 + x) → is_hole es x ≡ false
exponent_no_hole es x here = ap not ((among-iff es (get_or es 0 0 + x)).1 here)

pub holes_determine : (ks es : List ℕ) (n : ℕ) → AreSlices ks → IsStrictlyIncreasing es → 0 < length es → n + length ks ≤ span es + 1 → OnlyZeroFits (locator ks) (holes es) n → IsRepairable ks es
holes_determine ks es n are rise some fit only v is killed =
    let l : ℕ = length ks in
    run_determines ks (range_with_len f l) f are (range_has f l) v is
    (all_from (λ e. Kills ks e v) 0 (range_with_len f l) (λ i low.
    let long = length-range_with_len f l in
    let here : i < l = omega (arith, low, long) in
    subst (λ e. Kills ks e v) (sym (get_or-range_with_len f l i 0 here)) (zero_at i (omega (arith, here, fit)))))
  where
    f : ℕ
    f = get_or es 0 0

    w : ℕ
    w = span es + 1

    g : ℕ → ℕ
    g x = given ks v (f + x)

    -- at the exponents it is 0
    at_exponent : (x : ℕ) → is_hole es x ≡ false → g x ≡ 0
    at_exponent x e = of_contained (λ e. Kills ks e v) es (f + x) killed (no_hole es x e)

    -- so at the holes it satisfies the holes' equations
    fits : (u : ℕ) → u < n → dot (shifted (locator ks) u (holes es)) (map g (holes es)) ≡ 0
    fits u low =
        let p = locator ks in
        let at_holes = dot (shifted p u (holes es)) (map g (holes es)) in
        let long = length-with_roots (map constant ks) in
        let count = length-map ks constant in
        sym (xor_zero_r at_holes)
        ∙ ap (bit_xor at_holes) (sym (none_given (shifted_at p u) g (others es) (filter_all (λ x. g x ≡ 0) (λ x. not (is_hole es x)) (range_with_len 0 w) (range_all (λ x. not (is_hole es x) ≡ true → g x ≡ 0) w (λ x _ e. at_exponent x (not-true (is_hole es x) e))))))
        ∙ sym (window_parted es (shifted_at p u) g rise some)
        ∙ shifted_sum p u w g (omega (arith, long, count, low, fit))
        ∙ field_sum_same (length p) (λ k. mul (get_or p k 0) (g (u + k))) (λ k. mul (get_or p k 0) (given ks v (f + u + k)))
        (λ k _. let e : f + (u + k) ≡ f + u + k = omega arith in ap (λ s. mul (get_or p k 0) (given ks v s)) e)
        ∙ recurrence ks v (f + u) is.1

    zeros : AllByRecursion (λ x. g x ≡ 0) (holes es)
    zeros =
        all_unmap (λ x. x ≡ 0) g (holes es) (only (map g (holes es))
        (length-map (holes es) g, all-each (λ x. x < 2 ^ 16) g (λ x. dot-lt (coefficients ks (f + x)) v (coefficients_are (f + x) ks) is.1) (holes es)) fits)

    zero_at : (i : ℕ) → i < w → g i ≡ 0
    zero_at i low = step (is_hole es i) refl
      where
        step : (b : Bool) → is_hole es i ≡ b → given ks v (get_or es 0 0 + i) ≡ 0
        step true e = of_contained (λ x. g x ≡ 0) (holes es) i zeros (hole_contained es i rise some (omega (arith, low)) e)
        step false e = at_exponent i e

-- if the first n exponents determine the lost slices, all do
pub more_determine : (ks es : List ℕ) (n : ℕ) → IsRepairable ks (take n es) → IsRepairable ks es
more_determine ks es n first v is killed = first v is (all-take (λ e. Kills ks e v) n es killed)

-- The inverse of the holes' equations.

-- ---- rows of the equations

pub locator_long : (ks : List ℕ) → length (locator ks) ≡ suc (length ks)
locator_long ks = length-with_roots (map constant ks) ∙ ap suc (length-map ks constant)

shifted_at-lt : (p : List ℕ) (u x : ℕ) → AllByRecursion (λ c. c < 2 ^ 16) p → shifted_at p u x < 65536
shifted_at-lt p u x are = by_either (cases_lt x u)
    (λ low. (let e = below p u x low in omega (arith, e)))
    (λ high.
    (let e : shifted_at p u x ≡ get_or p (x - u) 0 = ap (λ b. cond b 0 (get_or p (x - u) 0)) (le-ltb x u high) in
    let small = all_at (λ c. c < 65536) 0 (omega arith) p are (x - u) in
    omega (arith, e, small)))

pub shifted_vector : (p places : List ℕ) (u : ℕ) → AllByRecursion (λ c. c < 2 ^ 16) p → IsVector (length places) (shifted p u places)
shifted_vector p places u are = (length-map places (shifted_at p u), all-each (λ c. c < 2 ^ 16) (shifted_at p u) (λ x. shifted_at-lt p u x are) places)

-- ---- sums over a window

pub same_values : {A B : Type 0} (g h : A → B) (xs : List A) → AllByRecursion (λ x. g x ≡ h x) xs → map g xs ≡ map h xs
same_values g h [] same = refl
same_values g h (x ∷ xs) same = ap₂ (λ y ys. y ∷ ys) same.0 (same_values g h xs same.1)

-- ---- the system's solution

pub are_hole_inverse : (p places : List ℕ) (n : ℕ) (system : Equations) (buffers rows : List (List ℕ)) → AllByRecursion (λ c. c < 2 ^ 16) p → AreHoleEquations p places n n system → OnlyZeroIsKilled system → IsTheSolution system buffers
    → AreByteRows rows buffers (length buffers) → AreHoleInverse p places n rows
are_hole_inverse p places n system buffers rows elements are regular solution rows_are =
    let count : length buffers ≡ length places = solution.are_buffers.count ∙ are.columns in
    record {
      count = rows_are.count ∙ count;
      vectors = λ q low. row_vector n system buffers rows solution.are_buffers are.bytes rows_are q (omega (arith, low, count));
      product = λ u k hu hk.
          unit_product (length places) n u k (shifted p u places) buffers rows (let long = length-map places (shifted_at p u) in omega (arith, long)) (shifted_vector p places u elements).1 solution.are_buffers.bytes
          (λ i hi. row_read n system buffers rows solution.are_buffers are.bytes rows_are i k (omega (arith, hi, count)) hk) hk
          (are.solves buffers solution.are_buffers solution.solves u hu hu);
      only = only_zero_fits p places n n system are regular;
    }

-- Sequences that satisfy a recurrence, and sums in reverse.

-- from each of the first n numbers on, the next l + 1 items, each times its coefficient, add up to 0
abbrev pub Recurs : (p : ℕ → ℕ) (l n : ℕ) (g : ℕ → ℕ) → Type 0
Recurs p l n g = (u : ℕ) → u < n → field_sum (suc l) (λ k. mul (p k) (g (u + k))) ≡ 0

next_item : (p g : ℕ → ℕ) (l n u : ℕ) → p l ≡ 1 → GivesElements g → Recurs p l n g → u < n → field_sum l (λ k. mul (p k) (g (u + k))) ≡ g (u + l)
unfolding field_sum
next_item p g l n u one are recurs low =
    xor_same (field_sum l (λ k. mul (p k) (g (u + k)))) (mul (p l) (g (u + l))) (recurs u low)
    ∙ ap (λ c. mul c (g (u + l))) one ∙ product_comm 1 (g (u + l)) (omega arith) (are (u + l)) ∙ product-one (g (u + l)) (are (u + l))

-- two such sequences that begin alike are alike
pub alike : (p g h : ℕ → ℕ) (l n : ℕ) → p l ≡ 1 → GivesElements g → GivesElements h → Recurs p l n g → Recurs p l n h → ((x : ℕ) → x < l → g x ≡ h x) → (m x : ℕ) → x < m → x < n + l → g x ≡ h x
alike p g h l n one g_are h_are g_recurs h_recurs first zero x low within = absurd (omega (arith, low))
alike p g h l n one g_are h_are g_recurs h_recurs first (suc m) x low within = by_either (cases_lt x l)
    (λ early. first x early)
    (λ late.
    let u = x - l in
    let same : u + l ≡ x = omega (arith, late) in
    let here : u < n = omega (arith, late, within) in
    subst (λ y. g y ≡ h y) same
    (sym (next_item p g l n u one g_are g_recurs here)
    ∙ field_sum_same l (λ k. mul (p k) (g (u + k))) (λ k. mul (p k) (h (u + k)))
    (λ k hk. ap (mul (p k)) (alike p g h l n one g_are h_are g_recurs h_recurs first m (u + k) (omega (arith, hk, same, low)) (omega (arith, hk, same, within))))
    ∙ next_item p h l n u one h_are h_recurs here))

-- the order of a sum doesn't matter
pub reversed : (n : ℕ) (f : ℕ → ℕ) → field_sum n (λ s. f (n - 1 - s)) ≡ field_sum n f
unfolding field_sum
reversed zero f = refl
reversed (suc n) f =
    field_sum_head n (λ s. f (suc n - 1 - s))
    ∙ ap₂ bit_xor (ap f (let e : suc n - 1 - 0 ≡ n = omega arith in e))
    (field_sum_same n (λ s. f (suc n - 1 - suc s)) (λ s. f (n - 1 - s)) (λ s _. ap f (let e : suc n - 1 - suc s ≡ n - 1 - s = omega arith in e)) ∙ reversed n f)
    ∙ xor_comm (f n) (field_sum n f)

-- If the first exponents, as many as slices are lost, determine the lost slices, they are the kept ones.

-- ---- the first exponents

-- n numbers whose first and last differ by less than n are a run
pub is_run : (xs : List ℕ) → IsStrictlyIncreasing xs → 0 < length xs → span xs < length xs → xs ≡ range_with_len (get_or xs 0 0) (length xs)
is_run xs rise some near =
    ext_get_or 0 xs (range_with_len (get_or xs 0 0) (length xs)) (sym (length-range_with_len (get_or xs 0 0) (length xs))) (λ k low.
    let at : get_or xs k 0 ≡ get_or xs 0 0 + k = omega (arith, near, rises_to_the_end xs rise some, rises_between xs rise 0 k (omega arith) low, rises_between xs rise k (length xs - 1) (omega (arith, low)) (omega (arith, some)), low) in
    at ∙ sym (get_or-range_with_len (get_or xs 0 0) (length xs) k 0 low))

-- ---- the kept exponents

-- if a filter leaves n items and the first n pass, it leaves these
filter_first : {A : Type 0} (p : A → Bool) (n : ℕ) (xs : List A) → length (filter p xs) ≡ n → AllByRecursion (λ x. p x ≡ true) (take n xs) → filter p xs ≡ take n xs
filter_first p zero xs count h = none xs (filter p xs) count
  where
    none : {A : Type 0} (xs ys : List A) → length ys ≡ 0 → ys ≡ take 0 xs
    none [] [] e = refl
    none (x ∷ xs) [] e = refl
    none xs (y ∷ ys) e = absurd (omega (arith, e))
filter_first p (suc n) [] count h = refl
filter_first p (suc n) (x ∷ xs) count h = grind (arith, filter_first p n xs, h.0, h.1)

-- if a filter leaves as many items as there are, all pass
all_pass : {A : Type 0} (p : A → Bool) (xs : List A) → length (filter p xs) ≡ length xs → AllByRecursion (λ x. p x ≡ true) xs
all_pass p [] e = tt
all_pass p (x ∷ xs) e = grind (arith, all_pass p xs, count_by-le-length p xs, length-filter p xs)

-- whether an exponent is kept depends only on those before it
kept_alone : (ks es : List ℕ) (n i : ℕ) → IsStrictlyIncreasing es → n ≤ length es → i < n → is_kept ks es (get_or es i 0) ≡ is_kept ks (take n es) (get_or es i 0)
kept_alone ks es n i rise within low =
    let long = length-take-le n es within in
    let at : get_or (take n es) i 0 ≡ get_or es i 0 = get_or-take n es i 0 low in
    is_kept_at ks es i rise (omega (arith, low, within))
    ∙ ap (λ before. is_independent (length ks) (map (coefficients ks) before) (coefficients ks (get_or es i 0))) (sym (take-take i n es (omega (arith, low))))
    ∙ subst (λ e. is_independent (length ks) (map (coefficients ks) (take i (take n es))) (coefficients ks e) ≡ is_kept ks (take n es) e) at (sym (is_kept_at ks (take n es) i (take_rises es n rise within) (omega (arith, low, long))))

-- the first exponents, as many as slices are lost, are kept if they determine the lost slices
first_pass : (ks es : List ℕ) → IsStrictlyIncreasing es → length ks ≤ length es → IsRepairable ks (take (length ks) es) → AllByRecursion (λ e. is_kept ks es e ≡ true) (take (length ks) es)
first_pass ks es rise within enough =
    let n : ℕ = length ks in
    let first : List ℕ = take (length ks) es in
    let long : length (take (length ks) es) ≡ length ks = length-take-le n es within in
    let full : length (kept ks (take (length ks) es)) ≡ length ks = (full-iff ks first (take_rises es n rise within)).1 enough in
    all_from (λ e. is_kept ks es e ≡ true) 0 first (λ i low.
    let here : i < n = omega (arith, low, long) in
    let at : get_or first i 0 ≡ get_or es i 0 = get_or-take n es i 0 here in
    subst (λ e. is_kept ks es e ≡ true) (sym at) (kept_alone ks es n i rise within here ∙ subst (λ e. is_kept ks first e ≡ true) at (all_get (λ e. is_kept ks first e ≡ true) first i 0 low (all_pass (is_kept ks first) first (full ∙ sym long)))))

pub kept_first : (ks es : List ℕ) → IsStrictlyIncreasing es → length ks ≤ length es → IsRepairable ks (take (length ks) es) → kept ks es ≡ take (length ks) es
kept_first ks es rise within enough = filter_first (is_kept ks es) (length ks) es ((full-iff ks es rise).1 (more_determine ks es (length ks) enough)) (first_pass ks es rise within enough)
