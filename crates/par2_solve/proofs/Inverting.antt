-- The rows that a locator represents, the lost slices by their syndromes block by block, and recovery slices in outputs.
use Rattle.par2_solve.proofs.Common.{by_either, ℕ, ◌+◌, ◌*◌, ◌/◌, ◌%◌, ◌<◌, ◌≤◌, ◌≡◌, refl, sym, ap, ◌∙◌, arith, List, [], length, get_or, map, subst, length-map, mul, coefficient, word, dot, coefficients, field_sum, list_at, all_at, all_from, field_sum_same, word-lt, IsInverseMatrix, ◌^◌, ◌-◌, ap₂, ◌++◌, length-append, bit_xor, drop, Bor, cases_lt, get_or-take, get_or-drop, get_or-map, get_or_append_left, get_or-append_right, length-replicate, length-take-le, length-drop, recovered, AddsToEach, chunk, syndrome, AreByteLists, AreProducts, AreSolved, AreSums, products, xor_zero_l, AreExtended, byte_lists, AreBlank, zero-add, take, range_with_len, get_or_past, get_or-map-range_with_len, padded, recovery, within, place_at, AddsAt, AreApart, LieWithin, adds_more, adds_same, within-in, within_joined, within_same, length-group, adds_to_group, words_at, Place, first_word, AreWritten, AreZeros, output_at, AreWithin, picked, AreSlices, suc, ext_get_or, times, with_roots, quotient, length-quotient, constant, pow, with_roots_elements, constant-lt, length-map-range_with_len, AreElements, AreFactors, locator, quotient_coefficient, dot_at, gives_back, quotient_at, constants-lt, constant_at, is_inverse, value_is_sum}
use Rattle.par2_solve.proofs.Combinations.{blank_word, recovered_by_words, all_coefficients, length-byte_lists}
use Rattle.par2_transform.specs.Polynomials as evaluations

-- The rows that a locator represents are the scaled quotients.

elements_drop : (n : ℕ) (p : List ℕ) → AreElements p → AreElements (drop n p)
elements_drop n p h = all_from (λ c. c < 2 ^ 16) 0 (drop n p) (λ i _. subst (λ x. x < 65536) (sym (get_or-drop n p i 0)) (all_at (λ x. x < 65536) 0 (omega arith) p h (n + i)))

-- a coefficient of the quotient, by the coefficients from 1 on
pub coefficient_is : (c s : ℕ) (p : List ℕ) → AreElements p → c < 2 ^ 16
    → evaluations.value (length (drop 1 p)) (evaluations.from s (λ i. get_or (drop 1 p) i 0)) c ≡ get_or (quotient c p) s 0
coefficient_is c s p h hc =
    let rest : length (drop 1 p) ≡ length p - 1 = length-drop 1 p in
    let some : length (drop (suc s) p) ≡ length p - suc s = length-drop (suc s) p in
    sym (quotient_at c p s
    ∙ value_is_sum c (drop (suc s) p) (length (drop 1 p)) (elements_drop (suc s) p h) hc (omega (arith, rest, some))
    ∙ field_sum_same (length (drop 1 p)) (λ t. mul (get_or (drop (suc s) p) t 0) (pow c t)) (λ t. mul (get_or (drop 1 p) (s + t) 0) (pow c t))
    (λ t _. ap (λ x. mul x (pow c t))
    (get_or-drop (suc s) p t 0 ∙ ap (λ i. get_or p i 0) (let e : suc s + t ≡ 1 + (s + t) = omega arith in e) ∙ sym (get_or-drop 1 p (s + t) 0))))

-- the rows for a polynomial's coefficients from 1 on, its roots and factors
abbrev pub quotient_rows : (sequence points factors : List ℕ) → List (List ℕ)
quotient_rows sequence points factors = map (λ j. map (quotient_coefficient sequence points factors j) (range_with_len 0 (length sequence))) (range_with_len 0 (length points))

-- the row of a point is its scaled quotient
pub row_is : (points factors p : List ℕ) (j : ℕ) → AreElements p → j < length points → get_or points j 0 < 2 ^ 16
    → list_at (quotient_rows (drop 1 p) points factors) j ≡ times (get_or factors j 0) (quotient (get_or points j 0) p)
row_is points factors p j h low hc =
    let n : ℕ = length (drop 1 p) in
    let b : ℕ = get_or factors j 0 in
    let c : ℕ = get_or points j 0 in
    let long : length (map (quotient_coefficient (drop 1 p) points factors j) (range_with_len 0 n)) ≡ n = length-map-range_with_len (quotient_coefficient (drop 1 p) points factors j) 0 n in
    let quotient_long : length (quotient c p) ≡ n = length-quotient c p ∙ sym (length-drop 1 p) in
    let size : length (times b (quotient c p)) ≡ n = length-map (quotient c p) (mul b) ∙ quotient_long in
    get_or-map-range_with_len (λ i. map (quotient_coefficient (drop 1 p) points factors i) (range_with_len 0 n)) 0 (length points) j j [] low (omega arith)
    ∙ ext_get_or 0 (map (quotient_coefficient (drop 1 p) points factors j) (range_with_len 0 n)) (times b (quotient c p)) (long ∙ sym size)
    (λ s here.
    get_or-map-range_with_len (quotient_coefficient (drop 1 p) points factors j) 0 n s s 0 (omega (arith, here, long)) (omega arith)
    ∙ ap (mul b) (coefficient_is c s p h hc)
    ∙ sym (get_or-map (mul b) (quotient c p) s 0 0 (omega (arith, here, long, quotient_long))))

-- with Forney's factors the rows are the inverse for a run
pub located_inverse : (ks : List ℕ) (f : ℕ) (factors : List ℕ) → AreSlices ks → AreFactors f ks factors (length ks) → IsInverseMatrix ks (range_with_len f (length ks)) (quotient_rows (drop 1 (locator ks)) (map constant ks) factors)
located_inverse ks f factors are given =
    let points : List ℕ = map constant ks in
    let p : List ℕ = with_roots (map constant ks) in
    let many : length (map constant ks) ≡ length ks = length-map ks constant in
    is_inverse ks f factors (quotient_rows (drop 1 p) points factors) are given
    (length-map-range_with_len (λ i. map (quotient_coefficient (drop 1 p) points factors i) (range_with_len 0 (length (drop 1 p)))) 0 (length points) ∙ many)
    (λ j low.
    row_is points factors p j (with_roots_elements points (constants-lt ks)) (omega (arith, low, many)) (subst (λ x. x < 65536) (sym (constant_at ks j low)) (constant-lt (get_or ks j 0)))
    ∙ ap (λ c. times (get_or factors j 0) (quotient c p)) (constant_at ks j low))

-- sums by coefficients are products with their matrix
pub coefficient_products : (co : ℕ → ℕ → ℕ) (n m size : ℕ) (sources sums : List (List ℕ)) → length sources ≡ m → AreSums size n (λ w r. field_sum m (λ s. mul (co r s) (word w (list_at sources s)))) sums
    → AreProducts size (map (λ r. map (co r) (range_with_len 0 m)) (range_with_len 0 n)) sources sums
coefficient_products co n m size sources sums sources_count are =
    let matrix : List (List ℕ) = map (λ r. map (co r) (range_with_len 0 m)) (range_with_len 0 n) in
    let many : length matrix ≡ n = length-map-range_with_len (λ r. map (co r) (range_with_len 0 m)) 0 n in
    let coefficient_at : (r s : ℕ) → r < n → s < m → get_or (list_at matrix r) s 0 ≡ co r s = λ r s low here.
    ap (λ xs. get_or xs s 0) (get_or-map-range_with_len (λ i. map (co i) (range_with_len 0 m)) 0 n r r [] low (omega arith))
    ∙ get_or-map-range_with_len (co r) 0 m s s 0 here (omega arith) in
    record {
      count = are.count ∙ sym many;
      sizes = λ r low. are.sizes r (omega (arith, low, many));
      words = λ r w low fits.
          are.words r w (omega (arith, low, many)) fits
          ∙ field_sum_same m (λ s. mul (co r s) (word w (list_at sources s))) (λ s. mul (get_or (list_at matrix r) s 0) (word w (list_at sources s)))
          (λ s here. ap (λ x. mul x (word w (list_at sources s))) (sym (coefficient_at r s (omega (arith, low, many)) here)))
          ∙ ap (λ k. products k matrix sources r w) (sym sources_count);
    }

-- The lost slices by their syndromes, one block of columns after the other.

-- ---- windows

window_at : (from n : ℕ) (buffers : List (List ℕ)) (k : ℕ) → k < length buffers → list_at (map (chunk from n) buffers) k ≡ chunk from n (list_at buffers k)
window_at from n buffers k low = get_or-map (chunk from n) buffers k [] [] low

pub word-window : (from n p : ℕ) (t : List ℕ) (q : ℕ) → from ≡ 2 * p → 2 * q + 1 < n → word q (chunk from n t) ≡ word (p + q) t
word-window from n p t q e low =
    let byte : (k m : ℕ) → k < n → from + k ≡ m → get_or (chunk from n t) k 0 ≡ get_or t m 0 = λ k m here same. get_or-take n (drop from t) k 0 here ∙ get_or-drop from t k 0 ∙ ap (λ i. get_or t i 0) same in
    ap₂ (λ x y. x + 256 * y) (byte (2 * q) (2 * (p + q)) (omega arith) (omega (arith, e))) (byte (2 * q + 1) (2 * (p + q) + 1) low (omega (arith, e)))

pub many_windows : (from n : ℕ) (buffers windows : List (Bor (List ℕ))) → byte_lists windows ≡ map (chunk from n) (byte_lists buffers) → length windows ≡ length buffers
many_windows from n buffers windows are = sym (length-byte_lists windows) ∙ ap length are ∙ length-map (byte_lists buffers) (chunk from n) ∙ length-byte_lists buffers

pub window_size : (from n : ℕ) (buffers windows : List (List ℕ)) → windows ≡ map (chunk from n) buffers → ((j : ℕ) → j < length buffers → from + n ≤ length (list_at buffers j))
    → (j : ℕ) → j < length windows → length (list_at windows j) ≡ n
window_size from n buffers windows are sizes j low =
    let here : j < length buffers = (let many = ap length are ∙ length-map buffers (chunk from n) in omega (arith, low, many)) in
    let t : List ℕ = list_at buffers j in
    let rest : n ≤ length (drop from t) = (let e = length-drop from t in let whole = sizes j here in omega (arith, e, whole)) in
    ap (λ ws. length (list_at ws j)) are ∙ ap length (window_at from n buffers j here) ∙ length-take-le n (drop from t) rest

-- a syndrome of windows is part of one of the whole buffers
syndrome-window : (from n p : ℕ) (exponents : List ℕ) (known slices : List (List ℕ)) (q j : ℕ) → from ≡ 2 * p → 2 * q + 1 < n → j < length slices
    → syndrome exponents (map (chunk from n) known) (map (chunk from n) slices) q j ≡ syndrome exponents known slices (p + q) j
syndrome-window from n p exponents known slices q j e low here =
    let factor = coefficient (get_or exponents j 0) in
    ap₂ bit_xor
    (ap (λ xs. word q xs) (window_at from n slices j here) ∙ word-window from n p (list_at slices j) q e low)
    (ap (λ m. field_sum m (λ k. mul (factor k) (word q (list_at (map (chunk from n) known) k)))) (length-map known (chunk from n))
    ∙ field_sum_same (length known) (λ k. mul (factor k) (word q (list_at (map (chunk from n) known) k))) (λ k. mul (factor k) (word (p + q) (list_at known k)))
    (λ k is. ap (mul (factor k)) (ap (λ xs. word q xs) (window_at from n known k is) ∙ word-window from n p (list_at known k) q e low)))

-- ---- appended blocks

word_before : (p : ℕ) (xs ys : List ℕ) (w : ℕ) → length xs ≡ 2 * p → w < p → word w (xs ++ ys) ≡ word w xs
word_before p xs ys w e low = ap₂ (λ x y. x + 256 * y) (get_or_append_left xs ys 0 (2 * w) (omega (arith, e))) (get_or_append_left xs ys 0 (2 * w + 1) (omega (arith, e)))

word_after : (p : ℕ) (xs ys : List ℕ) (w : ℕ) → length xs ≡ 2 * p → p ≤ w → word w (xs ++ ys) ≡ word (w - p) ys
word_after p xs ys w e high =
    let byte : (i m : ℕ) → 2 * p ≤ i → i - 2 * p ≡ m → get_or (xs ++ ys) i 0 ≡ get_or ys m 0 = λ i m behind same. get_or-append_right xs ys (2 * p) i 0 e behind ∙ ap (λ k. get_or ys k 0) same in
    ap₂ (λ x y. x + 256 * y) (byte (2 * w) (2 * (w - p)) (omega arith) (omega (arith, high))) (byte (2 * w + 1) (2 * (w - p) + 1) (omega arith) (omega (arith, high)))

-- ---- the words of a block

-- the result of adding to zeros is the sums themselves
pub sums_of_blank : (s n : ℕ) (side : ℕ → ℕ → ℕ) (blank sums : List (List ℕ)) → AreBlank s n blank → AddsToEach side blank sums → AreSums s n (λ w r. side r w) sums
sums_of_blank s n side blank sums is added =
    let size : (r : ℕ) → r < n → length (list_at blank r) ≡ s = λ r low. ap length (is.each r low) ∙ length-replicate {A = ℕ} s 0 in
    record {
      count = added.count ∙ is.count;
      sizes = λ r low. added.sizes r ∙ size r low;
      words = λ r w low fits.
          added.each r w (let count = is.count in omega (arith, count, low)) (let long = size r low in omega (arith, long, fits))
          ∙ ap (λ x. bit_xor x (side r w)) (ap (λ xs. word w xs) (is.each r low) ∙ blank_word s w)
          ∙ xor_zero_l (side r w);
    }

-- the rows of the inverse times the sources solve the equations
pub rows_solve : (s : ℕ) (lost es : List ℕ) (rows sources sums : List (List ℕ)) → IsInverseMatrix lost es rows → AreByteLists sources → length sources ≡ length lost → AreProducts s rows sources sums → AreSolved s lost es (words_at sources) sums
rows_solve s lost es rows sources sums is bytes many are = record {
  count = are.count ∙ is.count;
  sizes = λ r low. are.sizes r (let count = is.count in omega (arith, low, count));
  words = λ j w low fits.
      gives_back lost es rows sums w (λ k. word w (list_at sources k)) is (λ k. word-lt (list_at sources k) w (bytes k))
      (λ i hi. are.words i w (let count = is.count in omega (arith, hi, count)) fits ∙ ap (λ n. products n rows sources i w) many) j low;
}

-- recovery slices over the known slices, added to the kept ones, make them syndromes
pub words_solved : (s : ℕ) (lost exponents : List ℕ) (known slices syndromes new : List (List ℕ)) → length slices ≡ length lost → ((j : ℕ) → j < length slices → length (list_at slices j) ≡ s)
    → AddsToEach (λ t p. recovered known (get_or exponents t 0) p) slices syndromes → AreSolved s lost exponents (words_at syndromes) new → AreSolved s lost exponents (syndrome exponents known slices) new
words_solved s lost exponents known slices syndromes new many sizes added solved = record {
  count = solved.count;
  sizes = solved.sizes;
  words = λ j w low fits. let here : j < length slices = omega (arith, low, many) in solved.words j w low fits ∙ added.each j w here (let size = sizes j here in omega (arith, size, fits));
}

-- ---- block by block

pub none_solved : (m : ℕ) (lost exponents : List ℕ) (side : ℕ → ℕ → ℕ) (buffers : List (List ℕ)) → m ≡ length lost → AreBlank 0 m buffers → AreSolved 0 lost exponents side buffers
none_solved m lost exponents side buffers e blank = record {
  count = blank.count ∙ e;
  sizes = λ r h. ap length (blank.each r (omega (arith, e)));
  words = λ j w h low. absurd (omega (arith, low));
}

-- one block of n bytes more
pub more_solved : (from n : ℕ) (lost exponents : List ℕ) (known slices old blocks new : List (List ℕ)) → from % 2 ≡ 0 → length slices ≡ length lost → AreSolved from lost exponents (syndrome exponents known slices) old
    → AreSolved n lost exponents (syndrome exponents (map (chunk from n) known) (map (chunk from n) slices)) blocks → AreExtended old blocks new (length blocks)
    → AreSolved (from + n) lost exponents (syndrome exponents known slices) new
more_solved from n lost exponents known slices old blocks new even many before more extended =
    let p : ℕ = from / 2 in
    let half : from ≡ 2 * p = omega (arith, even) in
    let here : (r : ℕ) → r < length lost → list_at new r ≡ list_at old r ++ list_at blocks r = λ r h. extended.each r (let n = more.count in omega (arith, n, h)) in
    let same_sum : (j : ℕ) (xs ys : List (List ℕ)) (w q : ℕ) → ((r : ℕ) → r < length lost → word w (list_at xs r) ≡ word q (list_at ys r)) → dot (coefficients lost (get_or exponents j 0)) (map (word w) xs) ≡ dot (coefficients lost (get_or exponents j 0)) (map (word q) ys) = λ j xs ys w q equal.
    let row = coefficients lost (get_or exponents j 0) in
    let fit : length row ≤ length lost = (let long = length-map lost (coefficient (get_or exponents j 0)) in omega (arith, long)) in
    dot_at (length lost) row xs w fit
    ∙ field_sum_same (length lost) (λ i. mul (get_or row i 0) (word w (list_at xs i))) (λ i. mul (get_or row i 0) (word q (list_at ys i))) (λ i hi. ap (mul (get_or row i 0)) (equal i hi))
    ∙ sym (dot_at (length lost) row ys q fit) in
    record {
      count = extended.count ∙ before.count;
      sizes = λ r h. ap length (here r h) ∙ length-append (list_at old r) (list_at blocks r) ∙ ap₂ (λ a b. a + b) (before.sizes r h) (more.sizes r h);
      words = λ j w h low. by_either (cases_lt w p)
          (λ early.
          same_sum j new old w w (λ r hr. ap (λ xs. word w xs) (here r hr) ∙ word_before p (list_at old r) (list_at blocks r) w (before.sizes r hr ∙ half) early)
          ∙ before.words j w h (omega (arith, half, early)))
          (λ late.
          let q = w - p in
          let fits : 2 * q + 1 < n = omega (arith, half, low, late) in
          let same : p + q ≡ w = omega (arith, late) in
          same_sum j new blocks w q (λ r hr. ap (λ xs. word w xs) (here r hr) ∙ word_after p (list_at old r) (list_at blocks r) w (before.sizes r hr ∙ half) late)
          ∙ more.words j q h fits
          ∙ syndrome-window from n p exponents known slices q j half fits (omega (arith, h, many)) ∙ ap (λ x. syndrome exponents known slices x j) same);
    }

-- Recovery slices that are added to outputs.

-- ---- what is added to outputs

-- the sums of products are recovery slices
pub products_are : (n len : ℕ) (exponents : List ℕ) (rows slices old new : List (List ℕ)) (places : List Place) → rows ≡ all_coefficients n exponents → n ≡ length slices → length exponents ≡ length places
    → AddsAt places len (λ t p. products n rows slices t p) old new → AddsAt places len (λ t p. recovered slices (get_or exponents t 0) p) old new
products_are n len exponents rows slices old new places rows_are e many added =
    let entry : (t : ℕ) → t < length exponents → (k : ℕ) → k < length slices → get_or (list_at rows t) k 0 ≡ coefficient (get_or exponents t 0) k = λ t low k here.
    ap (λ xs. get_or (list_at xs t) k 0) rows_are ∙ ap (λ xs. get_or xs k 0) (get_or-map (coefficients (range_with_len 0 n)) exponents t 0 [] low)
    ∙ get_or-map-range_with_len (coefficient (get_or exponents t 0)) 0 n k k 0 (omega (arith, e, here)) (zero-add k) in
    adds_same places len (λ t p. products n rows slices t p) (λ t p. recovered slices (get_or exponents t 0) p) old new added
    (λ t p low _.
    ap (λ m. products m rows slices t p) e
    ∙ field_sum_same (length slices) (λ k. mul (get_or (list_at rows t) k 0) (word p (list_at slices k))) (λ k. mul (coefficient (get_or exponents t 0) k) (word p (list_at slices k)))
    (λ k here. ap (λ x. mul x (word p (list_at slices k))) (entry t (omega (arith, many, low)) k here)))

-- ---- sums that are added

abbrev pub sum_word : (from to : ℕ) (sums : List (List ℕ)) (t p : ℕ) → ℕ
sum_word from to sums t p = within from to p (word (p - from) (list_at sums t))

-- the first n outputs had their sums added
abbrev pub FirstAdded : List Place → (len n : ℕ) (other : ℕ → ℕ → ℕ) (was buffers : List (List ℕ)) → Type 0
FirstAdded places len n other was buffers = AddsAt places len (λ t p. within 0 n t (other t p)) was buffers

pub next_sum : (places : List Place) (len from to n : ℕ) (row : List ℕ) (sums was half buffers : List (List ℕ)) → row ≡ list_at sums n → FirstAdded places len n (sum_word from to sums) was half
    → AddsAt places len (λ t p. within n (n + 1) t (within from to p (word (p - from) row))) half buffers → FirstAdded places len (n + 1) (sum_word from to sums) was buffers
next_sum places len from to n row sums was half buffers is so_far added =
    adds_more places len (λ t p. within 0 n t (sum_word from to sums t p)) (λ t p. within n (n + 1) t (within from to p (word (p - from) row))) (λ t p. within 0 (n + 1) t (sum_word from to sums t p)) was half buffers so_far added
    (λ t p _ _.
    ap (bit_xor (within 0 n t (sum_word from to sums t p)))
    (within_same n (n + 1) t (within from to p (word (p - from) row)) (sum_word from to sums t p)
    (λ low high. let same : n ≡ t = omega (arith, low, high) in ap (λ xs. within from to p (word (p - from) xs)) (is ∙ ap (list_at sums) same)))
    ∙ within_joined 0 n (n + 1) t (sum_word from to sums t p) (omega arith) (omega arith))

-- the sums are those of products of windows, which are parts of slices
pub sums_are : (places : List Place) (len from to n : ℕ) (rows slices windows sums was buffers : List (List ℕ)) → from ≤ to → windows ≡ map (chunk (2 * from) (2 * (to - from))) slices → n ≡ length slices
    → length rows ≡ length places → AreProducts (2 * (to - from)) rows windows sums → AddsAt places len (sum_word from to sums) was buffers → AddsAt places len (λ t p. within from to p (products n rows slices t p)) was buffers
sums_are places len from to n rows slices windows sums was buffers order are n_is many made added =
    adds_same places len (sum_word from to sums) (λ t p. within from to p (products n rows slices t p)) was buffers added
    (λ t p low _. within_same from to p (word (p - from) (list_at sums t)) (products n rows slices t p) (λ p_low p_high.
    let q : ℕ = p - from in
    let fits : 2 * q + 1 < 2 * (to - from) = omega (arith, p_low, p_high) in
    made.words t q (omega (arith, many, low)) fits
    ∙ ap (λ k. products k rows windows t q) (ap length are ∙ length-map slices (chunk (2 * from) (2 * (to - from))))
    ∙ field_sum_same (length slices) (λ k. mul (get_or (list_at rows t) k 0) (word q (list_at windows k))) (λ k. mul (get_or (list_at rows t) k 0) (word p (list_at slices k)))
    (λ k here. ap (mul (get_or (list_at rows t) k 0))
    (ap (λ xs. word q (list_at xs k)) are ∙ ap (word q) (get_or-map (chunk (2 * from) (2 * (to - from))) slices k [] [] here)
    ∙ word-window (2 * from) (2 * (to - from)) from (list_at slices k) q refl fits ∙ ap (λ w. word w (list_at slices k)) (let e : from + q ≡ p = omega (arith, p_low) in e)))
    ∙ ap (λ k. products k rows slices t p) (sym n_is)))

-- ---- columns after columns

abbrev pub ColumnsAdded : List Place → (len n : ℕ) (other : ℕ → ℕ → ℕ) (was buffers : List (List ℕ)) → Type 0
ColumnsAdded places len n other was buffers = AddsAt places len (λ t p. within 0 n p (other t p)) was buffers

pub next_columns : (places : List Place) (len from to : ℕ) (other : ℕ → ℕ → ℕ) (was half buffers : List (List ℕ)) → from ≤ to → ColumnsAdded places len from other was half
    → AddsAt places len (λ t p. within from to p (other t p)) half buffers → ColumnsAdded places len to other was buffers
next_columns places len from to other was half buffers order so_far added =
    adds_more places len (λ t p. within 0 from p (other t p)) (λ t p. within from to p (other t p)) (λ t p. within 0 to p (other t p)) was half buffers so_far added
    (λ t p _ _. within_joined 0 from to p (other t p) (omega arith) order)

pub all_columns_added : (places : List Place) (len n : ℕ) (other : ℕ → ℕ → ℕ) (was buffers : List (List ℕ)) → len ≤ n → ColumnsAdded places len n other was buffers → AddsAt places len other was buffers
all_columns_added places len n other was buffers enough added =
    adds_same places len (λ t p. within 0 n p (other t p)) other was buffers added (λ t p _ low. within-in 0 n p (other t p) (omega arith) (omega (arith, enough, low)))

-- ---- group by group

abbrev pub group : {A : Type 0} → ℕ → ℕ → List A → List A
group at to xs = take (to - at) (drop at xs)

-- one group more
pub adds_group : (places part : List Place) (len words at to : ℕ) (exponents : List ℕ) (slices was half buffers : List (List ℕ)) → at ≤ to → to ≤ length places → AreApart len places → part ≡ group at to places → words ≡ len
    → FirstAdded places len at (λ t p. recovered slices (get_or exponents t 0) p) was half
    → AddsAt part words (λ t p. recovered slices (get_or (group at to exponents) t 0) p) half buffers
    → FirstAdded places len to (λ t p. recovered slices (get_or exponents t 0) p) was buffers
adds_group places part len words at to exponents slices was half buffers order fits apart part_is words_is so_far added =
    let other = λ (t p : ℕ). recovered slices (get_or exponents t 0) p in
    let given = λ (t p : ℕ). recovered slices (get_or (group at to exponents) t 0) p in
    let here : AddsAt (group at to places) len given half buffers =
    subst (λ (n : ℕ). AddsAt (group at to places) n given half buffers) words_is (subst (λ (ps : List Place). AddsAt ps words given half buffers) part_is added) in
    let moved : AddsAt (group at to places) len (λ t p. other (at + t) p) half buffers =
    adds_same (group at to places) len given (λ t p. other (at + t) p) half buffers here
    (λ t p low _. ap (λ e. recovered slices e p) (get_or-take (to - at) (drop at exponents) t 0 (let n = length-group at to places order fits in omega (arith, n, low)) ∙ get_or-drop at exponents t 0)) in
    adds_more places len (λ t p. within 0 at t (other t p)) (λ t p. within at to t (other t p)) (λ t p. within 0 to t (other t p)) was half buffers so_far (adds_to_group at to len other places half buffers order fits apart moved)
    (λ t p _ _. within_joined 0 at to t (other t p) (omega arith) order)

-- ---- outputs that were zeros

pub are_written : (places : List Place) (words : ℕ) (exponents : List ℕ) (slices old new : List (List ℕ)) → AreByteLists slices → AreByteLists new → LieWithin words places old → AreZeros words places old
    → AddsAt places words (λ t p. recovered slices (get_or exponents t 0) p) old new → AreWritten words slices exponents places old new
are_written places words exponents slices old new bytes fits within zeros added =
    let written : (t : ℕ) → t < length places → (place : Place) → place_at places t ≡ place → output_at (2 * words) place new ≡ recovery (2 * words) (map (padded (2 * words)) slices) (get_or exponents t 0) = λ t low place is.
    let s : ℕ = 2 * words in
    let content = list_at new place.buffer in
    let room : place.at + s ≤ length (list_at old place.buffer) = subst (λ (x : Place). x.at + 2 * words ≤ length (list_at old x.buffer)) is (within t low).1 in
    let long : length (drop place.at content) ≡ length content - place.at = length-drop place.at content in
    let size : length (output_at s place new) ≡ s = length-take-le s (drop place.at content) (let e = added.sizes place.buffer in omega (arith, long, room, e)) in
    let byte : (k : ℕ) → get_or (output_at s place new) k 0 < 256 =
    λ k. by_either (cases_lt k s)
    (λ inside. subst (λ x. x < 256) (sym (get_or-take s (drop place.at content) k 0 inside ∙ get_or-drop place.at content k 0)) (fits place.buffer (place.at + k)))
    (λ past. subst (λ x. x < 256) (sym (get_or_past (output_at s place new) k 0 (omega (arith, size, past)))) (omega arith)) in
    recovered_by_words s (get_or exponents t 0) slices (output_at s place new) (omega arith) bytes size byte
    (λ w here.
    first_word s w (drop place.at content) here ∙ ap (λ (x : Place). word w (drop x.at (list_at new x.buffer))) (sym is)
    ∙ added.each t w low (omega (arith, here)) ∙ ap (λ x. bit_xor x (recovered slices (get_or exponents t 0) w))
    (ap (λ (x : Place). word w (drop x.at (list_at old x.buffer))) is ∙ sym (first_word s w (drop place.at (list_at old place.buffer)) here)
    ∙ ap (λ (x : Place). word w (output_at s x old)) (sym is) ∙ ap (word w) (zeros t low) ∙ blank_word s w)
    ∙ xor_zero_l (recovered slices (get_or exponents t 0) w)) in
    record {
      count = added.count;
      sizes = added.sizes;
      each = λ t low. written t low (place_at places t) refl;
      others = added.others;
    }

-- The recovery slices of exponents, as some of those of all numbers from the first one on.

picked_at : (first : ℕ) (exponents : List ℕ) (lists : List (List ℕ)) (t : ℕ) → t < length exponents → list_at (picked first exponents lists) t ≡ list_at lists (get_or exponents t 0 - first)
picked_at first exponents lists t low = get_or-map (λ e. list_at lists (e - first)) exponents t 0 [] low

-- after recovery slices were added to zeros
module _ (first count words : ℕ) (exponents : List ℕ) (slices zeros all : List (List ℕ)) (blank : AreBlank (2 * words) count zeros) (inside : AreWithin first count exponents)
    (made : AddsToEach (λ x p. recovered slices (first + x) p) zeros all) where
  sized : (x : ℕ) → x < count → length (list_at all x) ≡ 2 * words
  sized x low = made.sizes x ∙ ap length (blank.each x low) ∙ length-replicate {A = ℕ} (2 * words) 0

  pub picked_sizes : (r : ℕ) → r < length (picked first exponents all) → length (list_at (picked first exponents all) r) ≡ 2 * (words - 0)
  picked_sizes r low =
      let here : r < length exponents = omega (arith, low, length-map exponents (λ e. list_at all (e - first))) in
      ap length (picked_at first exponents all r here) ∙ sized (get_or exponents r 0 - first) (inside r here).1 ∙ (let same : 2 * words ≡ 2 * (words - 0) = omega arith in same)

  picked_word : (t p : ℕ) → t < length exponents → p < words → word p (list_at (picked first exponents all) t) ≡ recovered slices (get_or exponents t 0) p
  picked_word t p here low =
      let x : ℕ = get_or exponents t 0 - first in
      let there : x < count = (inside t here).1 in
      let is_blank = blank.each x there in
      let long : 2 * p + 1 < length (list_at zeros x) = omega (arith, low, ap length is_blank, length-replicate {A = ℕ} (2 * words) 0) in
      ap (word p) (picked_at first exponents all t here) ∙ made.each x p (omega (arith, there, blank.count)) long
      ∙ ap (λ w. bit_xor w (recovered slices (first + x) p)) (ap (word p) is_blank ∙ blank_word (2 * words) p)
      ∙ xor_zero_l (recovered slices (first + x) p)
      ∙ ap (λ e. recovered slices e p) (let back : first + x ≡ get_or exponents t 0 = omega (arith, (inside t here).0) in back)

  pub span_added : (places : List Place) (was new : List (List ℕ)) → length exponents ≡ length places
      → AddsAt places words (sum_word 0 words (picked first exponents all)) was new → AddsAt places words (λ t p. recovered slices (get_or exponents t 0) p) was new
  span_added places was new many added =
      adds_same places words (sum_word 0 words (picked first exponents all)) (λ t p. recovered slices (get_or exponents t 0) p) was new added
      (λ t p low p_low. within-in 0 words p (word (p - 0) (list_at (picked first exponents all) t)) (omega arith) p_low ∙ ap (λ q. word q (list_at (picked first exponents all) t)) (let same : p - 0 ≡ p = omega arith in same) ∙ picked_word t p (omega (arith, low, many)) p_low)
