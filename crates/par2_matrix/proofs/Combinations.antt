-- Sums of products by index, sums of sums, and the solution for unit vectors, which is the inverse of the kept exponents' matrix.
use Rattle.par2_matrix.proofs.Common.{constant, pow, length-constant_powers, constant_powers, ℕ, zero, suc, ◌+◌, ◌*◌, ◌%◌, ◌<◌, ◌≤◌, ◌≡◌, refl, sym, ap, ◌∙◌, subst, arith, List, [], ◌∷◌, ◌++◌, length, get_or, map, length-map, get_or_past, mul, coefficient, word, dot, coefficients, combination, all_at, field_sum, list_at, field_sum_same, dot_sum, product_at, coefficients_are, combination_words, word-lt, bit_xor, product_linear_left, product_assoc, zero-product, field_sum_none, field_sum_xor, field_sum_scaled, GivesElements, by_either, cases_eq, get_or_push, get_or_append_left, ◌/◌, ◌≢◌, cond, eq-eqb, ne_eqb, product_comm, product-one, all_from, all_get, field_sum_one, dot-lt, words_are, bytes_at, Equations, IsTheSolution, AreByteRows, IsUnit, IsEliminated, IsInverseMatrix, identity, AreSolutionBuffers, IsVector, AllByRecursion, ◌^◌}
use Rattle.par2_matrix.specs.Systems as systems

-- ---- coefficients

-- past the last slice, the constant is 1
pub constant_past : (k : ℕ) → 32768 ≤ k → constant k ≡ 1
unfolding constant pow
constant_past k past = ap (pow 2) (get_or_past constant_powers k 0 (omega (arith, past, length-constant_powers)))

pub coefficients-lt : (numbers : List ℕ) (e k : ℕ) → get_or (coefficients numbers e) k 0 < 65536
coefficients-lt numbers e k = all_at (λ x. x < 65536) 0 (omega arith) (coefficients numbers e) (coefficients_are e numbers) k

-- ---- sums by index, and sums of sums

words_of : (buffers : List (List ℕ)) (w i : ℕ) → get_or (map (word w) buffers) i 0 ≡ word w (list_at buffers i)
words_of [] w i = refl
words_of (t ∷ buffers) w zero = refl
words_of (t ∷ buffers) w (suc i) = words_of buffers w i

-- the sum of products at a word, by index
pub dot_at : (n : ℕ) (row : List ℕ) (buffers : List (List ℕ)) (w : ℕ) → length row ≤ n → dot row (map (word w) buffers) ≡ field_sum n (λ i. mul (get_or row i 0) (word w (list_at buffers i)))
dot_at n row buffers w h =
    dot_sum n row (map (word w) buffers) h
    ∙ field_sum_same n (product_at row (map (word w) buffers)) (λ i. mul (get_or row i 0) (word w (list_at buffers i))) (λ i low. ap (mul (get_or row i 0)) (words_of buffers w i))

-- the order of two sums doesn't matter
pub field_sum_swap : (n m : ℕ) (g : ℕ → ℕ → ℕ) → field_sum n (λ i. field_sum m (λ k. g i k)) ≡ field_sum m (λ k. field_sum n (λ i. g i k))
unfolding field_sum
field_sum_swap zero m g = sym (field_sum_none m (λ k. 0) (λ k _. refl))
field_sum_swap (suc n) m g =
    ap (λ s. bit_xor s (field_sum m (λ k. g n k))) (field_sum_swap n m g)
    ∙ sym (field_sum_xor m (λ k. field_sum n (λ i. g i k)) (λ k. g n k))

-- a sum times an element, from the right
pub field_sum_times : (n k : ℕ) (f : ℕ → ℕ) → field_sum n (λ i. mul (f i) k) ≡ mul (field_sum n f) k
unfolding field_sum
field_sum_times zero k f = sym (zero-product k)
field_sum_times (suc n) k f =
    ap (λ s. bit_xor s (mul (f n) k)) (field_sum_times n k f) ∙ sym ((product_linear_left k).on_xor (field_sum n f) (f n))

-- matrix products are associative: a combination of combinations is the combination by the combined rows
pub combined : (n m : ℕ) (row : ℕ → ℕ) (inner : ℕ → ℕ → ℕ) (v : ℕ → ℕ) → GivesElements row → ((i : ℕ) → i < n → GivesElements (inner i)) → GivesElements v
    → field_sum n (λ i. mul (row i) (field_sum m (λ k. mul (inner i k) (v k)))) ≡ field_sum m (λ k. mul (field_sum n (λ i. mul (row i) (inner i k))) (v k))
combined n m row inner v are_row are_inner are_v =
    field_sum_same n _ (λ i. field_sum m (λ k. mul (mul (row i) (inner i k)) (v k)))
    (λ i low. sym (field_sum_scaled m (row i) (λ k. mul (inner i k) (v k)))
    ∙ field_sum_same m (λ k. mul (row i) (mul (inner i k) (v k))) (λ k. mul (mul (row i) (inner i k)) (v k))
    (λ k _. sym (product_assoc (row i) (inner i k) (v k) (are_row i) (are_inner i low k) (are_v k))))
    ∙ field_sum_swap n m (λ i k. mul (mul (row i) (inner i k)) (v k))
    ∙ field_sum_same m (λ k. field_sum n (λ i. mul (mul (row i) (inner i k)) (v k))) (λ k. mul (field_sum n (λ i. mul (row i) (inner i k))) (v k))
    (λ k _. field_sum_times n (v k) (λ i. mul (row i) (inner i k)))

-- what holds of each item of a list and of one item more
pub each_more : {A : Type 0} (P : ℕ → A → Type 0) (d : A) (xs : List A) (x : A) (n : ℕ) → length xs ≡ n → ((i : ℕ) → i < n → P i (get_or xs i d)) → P n x
    → (i : ℕ) → i < n + 1 → P i (get_or (xs ++ x ∷ []) i d)
each_more P d xs x n many each here i low = by_either (cases_eq n i)
    (λ same. subst (λ m. P m (get_or (xs ++ x ∷ []) m d)) same (subst (P n) (sym (get_or_push xs x d n many)) here))
    (λ other. let before : i < n = omega (arith, low, other) in subst (P i) (sym (get_or_append_left xs (x ∷ []) d i (omega (arith, many, before)))) (each i before))

-- ---- the identity

identity-itself : (i : ℕ) → identity i i ≡ 1
identity-itself i = ap (λ b. cond b 1 0) (eq-eqb i i refl)

identity-others : (i k : ℕ) → i ≢ k → identity i k ≡ 0
identity-others i k other = ap (λ b. cond b 1 0) (ne_eqb i k other)

pub identity-lt : (i k : ℕ) → identity i k < 65536
identity-lt i k = grind (arith, cases_eq i k, identity-itself, identity-others)

-- a row of the identity picks one value
pub sum_of_row : (n i : ℕ) (f : ℕ → ℕ) → i < n → GivesElements f → field_sum n (λ k. mul (identity i k) (f k)) ≡ f i
sum_of_row n i f low are =
    field_sum_one n i (λ k. mul (identity i k) (f k)) low (λ k h other. ap (λ x. mul x (f k)) (identity-others i k (λ e. other (sym e))) ∙ zero-product (f k))
    ∙ ap (λ x. mul x (f i)) (identity-itself i) ∙ product_comm 1 (f i) (omega arith) (are i) ∙ product-one (f i) (are i)

-- ---- the solution for unit vectors is the inverse

unit_bytes : (n i : ℕ) (bytes : List ℕ) → IsUnit n i bytes → (k : ℕ) → get_or bytes k 0 < 256
unit_bytes n i bytes is k =
    let p = k / 2 in
    let small : word p bytes < 2 = by_either (cases_eq p i)
    (λ same. (let e : word p bytes ≡ 1 = ap (λ q. word q bytes) same ∙ is.one in omega (arith, e)))
    (λ other. (let e : word p bytes ≡ 0 = is.zeros p other in omega (arith, e))) in
    by_either (cases_eq (k % 2) 0)
    (λ even. (let e : k ≡ 2 * p = omega arith in let at : get_or bytes k 0 ≡ get_or bytes (2 * p) 0 = ap (λ q. get_or bytes q 0) e in omega (arith, at, small)))
    (λ odd. (let e : k ≡ 2 * p + 1 = omega arith in let at : get_or bytes k 0 ≡ get_or bytes (2 * p + 1) 0 = ap (λ q. get_or bytes q 0) e in omega (arith, at, small)))

unit_word : (n j : ℕ) (unit : List ℕ) (k : ℕ) → IsUnit n j unit → word k unit ≡ identity j k
unit_word n j unit k is = by_either (cases_eq k j)
    (λ same. subst (λ m. word m unit ≡ identity j m) (sym same) (is.one ∙ sym (identity-itself j)))
    (λ other. is.zeros k other ∙ sym (identity-others j k (λ e. other (sym e))))

-- the elements of buffers of n words
pub row_long : (n : ℕ) (system : Equations) (buffers rows : List (List ℕ)) → AreSolutionBuffers system buffers → system.bytes ≡ 2 * n → AreByteRows rows buffers (length buffers) → (i : ℕ) → i < length buffers → length (list_at rows i) ≡ n
row_long n system buffers rows are_buffers bytes are i h =
    let size = (are.each i h).size in
    let all = all_get (λ (content : List ℕ). length content ≡ system.bytes) buffers i [] h are_buffers.sizes in
    omega (arith, size, all, bytes)

pub row_read : (n : ℕ) (system : Equations) (buffers rows : List (List ℕ)) → AreSolutionBuffers system buffers → system.bytes ≡ 2 * n → AreByteRows rows buffers (length buffers) → (i k : ℕ) → i < length buffers → k < n → word k (list_at buffers i) ≡ get_or (list_at rows i) k 0
row_read n system buffers rows are_buffers bytes are i k hi hk = let size = row_long n system buffers rows are_buffers bytes are i hi in (are.each i hi).each k (omega (arith, size, hk)) (omega (arith, size, hk))

pub row_vector : (n : ℕ) (system : Equations) (buffers rows : List (List ℕ)) → AreSolutionBuffers system buffers → system.bytes ≡ 2 * n → AreByteRows rows buffers (length buffers) → (i : ℕ) → i < length buffers → IsVector n (list_at rows i)
row_vector n system buffers rows are_buffers bytes are i h = (
  row_long n system buffers rows are_buffers bytes are i h,
  all_from (λ y. y < 65536) 0 (list_at rows i) (λ k low.
      let here : k < n = (let size = row_long n system buffers rows are_buffers bytes are i h in omega (arith, size, low)) in
      subst (λ y. y < 65536) (row_read n system buffers rows are_buffers bytes are i k h here) (word-lt (list_at buffers i) k (bytes_at buffers are_buffers.bytes i))),
)

-- if a row times the buffers is a unit vector, the row times their elements is a row of the identity
pub unit_product : (m n j k : ℕ) (row : List ℕ) (buffers rows : List (List ℕ)) → length row ≤ m → AllByRecursion (λ c. c < 2 ^ 16) row → AllByRecursion (λ (content : List ℕ). AllByRecursion (λ b. b < 256) content) buffers
    → ((i : ℕ) → i < m → word k (list_at buffers i) ≡ get_or (list_at rows i) k 0) → k < n → IsUnit n j (combination (2 * n) row buffers) → field_sum m (λ i. mul (get_or row i 0) (get_or (list_at rows i) k 0)) ≡ identity j k
unit_product m n j k row buffers rows fit elements bytes read low is =
    let unit = combination (2 * n) row buffers in
    field_sum_same m (λ i. mul (get_or row i 0) (get_or (list_at rows i) k 0)) (λ i. mul (get_or row i 0) (word k (list_at buffers i))) (λ i hi. ap (mul (get_or row i 0)) (sym (read i hi)))
    ∙ sym (dot_at m row buffers k fit)
    ∙ (combination_words (2 * n) row buffers unit (omega arith) (λ p. dot-lt row (map (word p) buffers) elements (words_are p buffers bytes)) is.size (unit_bytes n j unit is)).0 refl k (omega (arith, low))
    ∙ unit_word n j unit k is

pub are_inverse : (lost exponents kept_ones : List ℕ) (system : Equations) (buffers rows : List (List ℕ)) → IsEliminated lost (length lost) exponents kept_ones system → IsTheSolution system buffers
    → systems.rank system ≡ system.columns → AreByteRows rows buffers (length buffers) → IsInverseMatrix lost kept_ones rows
are_inverse lost exponents kept_ones system buffers rows found solution full are =
    let n : ℕ = length lost in
    let count : length buffers ≡ n = solution.are_buffers.count ∙ found.columns in
    let kept_count : length kept_ones ≡ n = ap (λ (ks : List ℕ). length ks) found.are_kept ∙ sym found.rank ∙ full ∙ found.columns in
    record {
      square = kept_count;
      count = are.count ∙ count;
      vectors = λ i h. row_vector n system buffers rows solution.are_buffers found.bytes are i (omega (arith, h, count));
      product = λ j k hj hk.
          let e : ℕ = get_or kept_ones j 0 in
          let fit : length (coefficients lost e) ≤ n = (let long = length-map lost (coefficient e) in omega (arith, long)) in
          unit_product n n j k (coefficients lost e) buffers rows fit (coefficients_are e lost) solution.are_buffers.bytes (λ i hi. row_read n system buffers rows solution.are_buffers found.bytes are i k (omega (arith, hi, count)) hk) hk
          (found.solves buffers solution.are_buffers solution.solves j (omega (arith, hj, kept_count)) hj);
    }

-- ---- the exponents' matrix times the inverse times some elements is these elements

pub gives_back : (lost es : List ℕ) (inverse made : List (List ℕ)) (w : ℕ) (s : ℕ → ℕ) → IsInverseMatrix lost es inverse → GivesElements s
    → ((i : ℕ) → i < length lost → word w (list_at made i) ≡ field_sum (length lost) (λ j. mul (get_or (list_at inverse i) j 0) (s j)))
    → (j : ℕ) → j < length lost → dot (coefficients lost (get_or es j 0)) (map (word w) made) ≡ s j
gives_back lost es inverse made w s is are made_is j low =
    let n = length lost in
    let row = coefficients lost (get_or es j 0) in
    let x = λ (i k : ℕ). get_or (list_at inverse i) k 0 in
    dot_at n row made w (let long = length-map lost (coefficient (get_or es j 0)) in omega (arith, long))
    ∙ field_sum_same n (λ i. mul (get_or row i 0) (word w (list_at made i))) (λ i. mul (get_or row i 0) (field_sum n (λ k. mul (x i k) (s k)))) (λ i hi. ap (mul (get_or row i 0)) (made_is i hi))
    ∙ combined n n (λ i. get_or row i 0) x s (coefficients-lt lost (get_or es j 0)) (λ i hi. all_at (λ z. z < 65536) 0 (omega arith) (list_at inverse i) (is.vectors i hi).1) are
    ∙ field_sum_same n (λ k. mul (field_sum n (λ i. mul (get_or row i 0) (x i k))) (s k)) (λ k. mul (identity j k) (s k)) (λ k hk. ap (λ z. mul z (s k)) (is.product j k low hk))
    ∙ sum_of_row n j s low are
