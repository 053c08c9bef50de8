-- Sums of products: from added products to recovery slices, and the loops that add products.
use Rattle.par2_solve.proofs.Common.{ℕ, zero, suc, ◌+◌, ◌-◌, ◌*◌, ◌%◌, ◌<◌, ◌≤◌, ◌≡◌, refl, sym, ap, ap₂, ◌∙◌, subst, arith, List, [], ◌∷◌, ◌++◌, length, get_or, map, replicate, Vec, Global, zero-add, Bor, range_with_len, get_or-map, length-map, get_or-map-range_with_len, length-map-range_with_len, length-range_with_len, mul, coefficient, padded, word, dot, coefficients, combination, recovery, product-lt, field_sum, list_at, lists_of, field_sum_same, field_sum-lt, coefficients_are, combination_words, word-lt, AreByteLists, recovered, zeros_read, byte_lists, bit_xor, cases_lt, xor_assoc, xor_zero_r, product-zero, AddsSource, Adds, products, by_either, take, drop, within-in, cases_eq, put_mid, AddsTo, AddsEach, word_of, WordVector, word_drop, words_kept, OneChanged, adds_columns, within-below, dot_at}

-- ---- padding

padded_read : (t : List ℕ) (m i : ℕ) → get_or (t ++ replicate m 0) i 0 ≡ get_or t i 0
padded_read [] m i = zeros_read m i
padded_read (x ∷ t) m zero = refl
padded_read (x ∷ t) m (suc i) = padded_read t m i

-- padding changes no word
pub word-padded : (s : ℕ) (t : List ℕ) (p : ℕ) → word p (padded s t) ≡ word p t
word-padded s t p = ap₂ (λ x y. x + 256 * y) (padded_read t (s - length t) (2 * p)) (padded_read t (s - length t) (2 * p + 1))

-- padding changes no word of any list
words_padded : (s w : ℕ) (lists : List (List ℕ)) → map (word w) (map (padded s) lists) ≡ map (word w) lists
words_padded s w [] = refl
words_padded s w (t ∷ lists) = ap₂ (λ x xs. x ∷ xs) (word-padded s t w) (words_padded s w lists)

-- ---- coefficients

-- a word of a recovery slice is such a sum
pub recovered_dot : (e : ℕ) (lists : List (List ℕ)) (w : ℕ) → dot (coefficients (range_with_len 0 (length lists)) e) (map (word w) lists) ≡ recovered lists e w
recovered_dot e lists w =
    let n = length lists in
    let row = coefficients (range_with_len 0 n) e in
    dot_at n row lists w (let long = length-map-range_with_len (coefficient e) 0 n in omega (arith, long))
    ∙ field_sum_same n (λ i. mul (get_or row i 0) (word w (list_at lists i))) (λ i. mul (coefficient e i) (word w (list_at lists i)))
    (λ i h. ap (λ c. mul c (word w (list_at lists i))) (get_or-map-range_with_len (coefficient e) 0 n i i 0 h (zero-add i)))

pub recovered-lt : (lists : List (List ℕ)) (e w : ℕ) → AreByteLists lists → recovered lists e w < 65536
recovered-lt lists e w bytes =
    field_sum-lt (length lists) (λ i. mul (coefficient e i) (word w (list_at lists i))) (λ i. product-lt _ _ (coefficients_are e (i ∷ [])).0 (word-lt (list_at lists i) w (bytes i)))

-- ---- recovery slices

pub blank_word : (s p : ℕ) → word p (replicate s 0) ≡ 0
blank_word s p = ap₂ (λ x y. x + 256 * y) (zeros_read s (2 * p)) (zeros_read s (2 * p + 1))

-- a list is the recovery slice if its words are the recovery slice's
pub recovered_by_words : (s e : ℕ) (lists : List (List ℕ)) (content : List ℕ) → s % 2 ≡ 0 → AreByteLists lists → length content ≡ s → ((k : ℕ) → get_or content k 0 < 256)
    → ((w : ℕ) → 2 * w + 1 < s → word w content ≡ recovered lists e w) → content ≡ recovery s (map (padded s) lists) e
unfolding recovery
recovered_by_words s e lists content even bytes size fits words =
    let row : List ℕ = coefficients (range_with_len 0 (length lists)) e in
    let dots : (w : ℕ) → dot row (map (word w) (map (padded s) lists)) ≡ recovered lists e w = λ w. ap (dot row) (words_padded s w lists) ∙ recovered_dot e lists w in
    sym (ap (λ n. combination s (coefficients (range_with_len 0 n) e) (map (padded s) lists)) (length-map lists (padded s))
    ∙ (combination_words s row (map (padded s) lists) content even (λ w. subst (λ x. x < 65536) (sym (dots w)) (recovered-lt lists e w bytes)) size fits).1
    (λ w low. dots w ∙ sym (words w (omega (arith, low)))))

-- ---- rows of factors

-- the generalized Vandermonde matrix: for each exponent, its coefficients for the first n input slices
abbrev pub all_coefficients : (n : ℕ) (exponents : List ℕ) → List (List ℕ)
all_coefficients n exponents = map (coefficients (range_with_len 0 n)) exponents

pub length-rows : (n : ℕ) (exponents : List ℕ) (xs : List (Vec ℕ Global)) → lists_of xs ≡ all_coefficients n exponents → length xs ≡ length exponents
length-rows n exponents xs e = sym (length-map xs (λ (x : Vec ℕ Global). x.items)) ∙ ap length e ∙ length-map exponents (coefficients (range_with_len 0 n))

pub rows_long : (n : ℕ) (exponents : List ℕ) (xs : List (Vec ℕ Global)) → lists_of xs ≡ all_coefficients n exponents → (r : ℕ) → r < length xs → n ≤ length (list_at (lists_of xs) r)
rows_long n exponents xs e r low =
    let long =
    ap (λ ls. length (list_at ls r)) e
    ∙ ap length (get_or-map (coefficients (range_with_len 0 n)) exponents r 0 [] (let count = length-rows n exponents xs e in omega (arith, count, low)))
    ∙ length-map (range_with_len 0 n) (coefficient (get_or exponents r 0)) ∙ length-range_with_len 0 n in
    omega (arith, long)

pub length-byte_lists : (xs : List (Bor (List ℕ))) → length (byte_lists xs) ≡ length xs
length-byte_lists xs = length-map xs (λ (x : Bor (List ℕ)). x.now)

-- The loops that add products.

-- a word of a buffer, from the vectors of a part of it
pub vector_word : (bytes : List ℕ) (vectors : List WordVector) (from to m : ℕ) → m ≡ 2 * to - 2 * from → ((q : ℕ) → word_of vectors q ≡ word q (take m (drop (2 * from) bytes)))
    → (p : ℕ) → from ≤ p → p < to → word_of vectors (p - from) ≡ word p bytes
vector_word bytes vectors from to m size are p low high =
    are (p - from) ∙ words_kept (drop (2 * from) bytes) (take m (drop (2 * from) bytes)) m (p - from) refl (omega (arith, size))
    ∙ word_drop bytes from (p - from) ∙ ap (λ i. word i bytes) (let e : from + (p - from) ≡ p = omega arith in e)

-- what is added to a part is added to the whole
pub part_added : (other : ℕ → ℕ) (bytes new : List ℕ) (from to k : ℕ) → from ≤ to → 2 * to ≤ length bytes → k ≡ 2 * to - 2 * from → AddsTo other (take k (drop (2 * from) bytes)) new
    → AddsEach (λ p. other (p - from)) bytes (put_mid (2 * from) k bytes new) from to
part_added other bytes new from to k order room size added =
    let part = adds_columns 0 to from to (2 * from) k other bytes new order (omega arith) (omega arith) (omega arith) size added in
    record {
      same_length = part.same_length;
      inside = λ p low high fits. part.each p high ∙ ap (bit_xor (word p bytes)) (within-in from to p (other (p - from)) low high);
      below = λ p low. part.each p (omega arith) ∙ ap (bit_xor (word p bytes)) (within-below from to p (other (p - from)) low) ∙ xor_zero_r (word p bytes);
      above = λ p high. ap₂ (λ x y. x + 256 * y) (part.behind (2 * p) (omega arith)) (part.behind (2 * p + 1) (omega arith));
    }

-- one target more
pub next_target : (factor source : ℕ → ℕ) (old mid new : List (List ℕ)) (from to n : ℕ) → AddsSource factor source old mid from to n → OneChanged mid new n
    → AddsEach (λ p. mul (factor n) (source p)) (list_at mid n) (list_at new n) from to → AddsSource factor source old new from to (n + 1)
next_target factor source old mid new from to n so_far changed added = record {
  count = changed.count ∙ so_far.count;
  done = λ r h. by_either (cases_eq r n)
      (λ same.
      let was : list_at mid n ≡ list_at old n = so_far.rest n (omega arith) in
      subst (λ m. AddsEach (λ p. mul (factor m) (source p)) (list_at old m) (list_at new m) from to) (sym same)
      (subst (λ xs. AddsEach (λ p. mul (factor n) (source p)) xs (list_at new n) from to) was added))
      (λ other. subst (λ xs. AddsEach (λ p. mul (factor r) (source p)) (list_at old r) xs from to) (sym (changed.others r other)) (so_far.done r (omega arith)));
  rest = λ r h. changed.others r (omega arith) ∙ so_far.rest r (omega arith);
}

-- a source that ends before these words adds nothing
pub nothing_added : (factor : ℕ → ℕ) (old : List (List ℕ)) (from to n : ℕ) → AddsSource factor (λ p. 0) old old from to n
nothing_added factor old from to n = record {
  count = refl;
  done = λ r h. record {
    same_length = refl;
    inside = λ p low high fits. sym (ap (bit_xor (word p (list_at old r))) (product-zero (factor r)) ∙ xor_zero_r (word p (list_at old r)));
    below = λ p h. refl;
    above = λ p h. refl;
  };
  rest = λ r h. refl;
}

-- before the first source
pub no_source : (factors sources old : List (List ℕ)) (from to : ℕ) → Adds factors sources old old from to 0
unfolding field_sum
no_source factors sources old from to = record {
  count = refl;
  sizes = λ r. refl;
  inside = λ r p low from_here to_here fits. sym (xor_zero_r (word p (list_at old r)));
  below = λ r p h. refl;
  above = λ r p h. refl;
}

-- one source more
pub next_source : (factors sources old mid new : List (List ℕ)) (from to n : ℕ) → Adds factors sources old mid from to n
    → (source : ℕ → ℕ) → ((p : ℕ) → from ≤ p → p < to → source p ≡ word p (list_at sources n))
    → AddsSource (λ r. get_or (list_at factors r) n 0) source mid new from to (length mid) → Adds factors sources old new from to (n + 1)
unfolding field_sum
next_source factors sources old mid new from to n so_far source same added =
    let sizes : (r : ℕ) → length (list_at new r) ≡ length (list_at mid r) = λ r. by_either (cases_lt r (length mid))
    (λ low. (added.done r low).same_length)
    (λ high. ap length (added.rest r high)) in
    let more : (m : ℕ) (f : ℕ → ℕ) → bit_xor (field_sum m f) (f m) ≡ field_sum (m + 1) f = λ m f. let e : suc m ≡ m + 1 = omega arith in ap (λ x. field_sum x f) e in
    record {
      count = added.count ∙ so_far.count;
      sizes = λ r. sizes r ∙ so_far.sizes r;
      inside = λ r p low from_here to_here fits.
          let at = added.done r (omega (arith, so_far.count)) in
          let size : 2 * p + 1 < length (list_at mid r) = omega (arith, so_far.sizes r) in
          at.inside p from_here to_here size
          ∙ ap (λ x. bit_xor (word p (list_at mid r)) (mul (get_or (list_at factors r) n 0) x)) (same p from_here to_here)
          ∙ ap (λ x. bit_xor x (mul (get_or (list_at factors r) n 0) (word p (list_at sources n)))) (so_far.inside r p low from_here to_here fits)
          ∙ xor_assoc (word p (list_at old r)) (products n factors sources r p) (mul (get_or (list_at factors r) n 0) (word p (list_at sources n)))
          ∙ ap (bit_xor (word p (list_at old r))) (more n (λ k. mul (get_or (list_at factors r) k 0) (word p (list_at sources k))));
      below = λ r p h. by_either (cases_lt r (length mid)) (λ low. (added.done r low).below p h ∙ so_far.below r p h) (λ high. ap (λ xs. word p xs) (added.rest r high) ∙ so_far.below r p h);
      above = λ r p h. by_either (cases_lt r (length mid)) (λ low. (added.done r low).above p h ∙ so_far.above r p h) (λ high. ap (λ xs. word p xs) (added.rest r high) ∙ so_far.above r p h);
    }
