-- Sums of sources by the error locator, and what they are made of.
use Rattle.par2_transform.proofs.Common.{div-mul-le_self, div-add-mod', div-mul-add, mod-lt, pow_pos, pow_mono, ◌/◌, WordVector, word_of, map, inl, inr, suc, pow-suc, AreCopied, ℕ, ◌+◌, ◌-◌, ◌*◌, ◌%◌, ◌^◌, ◌<◌, ◌≤◌, ◌≡◌, sym, ap, ap₂, subst, ◌∙◌, arith, bit_xor, zero-add, add-mul, one-mul, List, length, get_or, slice_index, get_or_past, length-map, pow-le-pow_right, point_number, cases_lt, pow-add, mul-le-mul_right, xor_zero_l, mul, pow, GivesElements, product-lt, product_comm, product-one, product_assoc, product_linear_left, zero-product, power-lt, word-lt, field_sum, field_sum-lt, field_sum_same, field_sum_scaled, within, AddsAt, RowsGathered, AreByteLists, words_at, list_at, AreValues, AreWeights, value, from, Grid, column, EachColumn, ArePowerSums, power_sum, point, IsListed, AreListedValues, AreNumbered, AreNumerators, HaveFirst, IsWeighed, in_coset, numerator, quotient_sum, Place, get_or-map, IsPowerOfTwo, max, combined, IsCombination, HoldNumerators}
use Rattle.par2_transform.proofs.Additions.{adds_empty, adds_none, adds_range, adds_same, adds_whole, within-in, within-below, within-above, within_same, within_zero, power_sum_plain, begins, columns_within, no_words, wider_fit, are_whole, whole_apart}
use Rattle.par2_transform.proofs.StepLaws.{combined_same}
use Rattle.par2_transform.proofs.Chirps.{hankel_sum}
use Rattle.par2_transform.proofs.Subspaces.{point_number-lt, point_of_number, field_sum_swap, field_sum_linear}
use Rattle.par2_transform.proofs.BlockLaws.{field_sum_short}
use Rattle.par2_transform.proofs.GridLaws.{no_first, next_first}

-- ---- the parts of a locator

pub shifted_most : (i : ℕ) → i ≤ 16 → 1 * 2 ^ i % 18446744073709551616 ≡ 2 ^ i
shifted_most i few =
    let most : 2 ^ i ≤ 2 ^ 16 = pow-le-pow_right (let two : 0 < 2 = omega arith in two) few in
    omega (arith, most)

-- levels for n elements and sums
pub levels_fit : (n p k : ℕ) → n ≤ 65536 → IsPowerOfTwo p → n ≤ p → p / 2 < max 1 n → 2 ^ k ≤ p → p < 2 * 2 ^ k → (k ≤ 16) × (n ≤ 2 ^ k)
levels_fit n p k most power enough least low high =
    let under : p ≤ 65536 = elim (cases_lt 16 power.0) [
      | inl more ↦ (let big : 2 ^ 17 ≤ 2 ^ power.0 = pow_mono {i = 17} {j = power.0} more in omega (arith, big, power.1, least, most))
      | inr few ↦ (let small : 2 ^ power.0 ≤ 2 ^ 16 = pow_mono {i = power.0} {j = 16} few in omega (arith, small, power.1))
    ] in
    let few : k ≤ 16 = elim (cases_lt 16 k) [ inl more ↦ (let big : 2 ^ 17 ≤ 2 ^ k = pow_mono {i = 17} {j = k} more in absurd (omega (arith, big, low, under))) | inr few ↦ few ] in
    let all : p ≤ 2 ^ k = elim (cases_lt k power.0) [
      | inl more ↦ (let big : 2 ^ suc k ≤ 2 ^ power.0 = pow_mono {i = suc k} {j = power.0} more in absurd (omega (arith, big, power.1, high, pow-suc 2 k)))
      | inr less ↦ (let small : 2 ^ power.0 ≤ 2 ^ k = pow_mono {i = power.0} {j = k} less in omega (arith, small, power.1))
    ] in
    (few, omega (arith, all, enough))

-- fewer levels have fewer rows
pub less_rows : (i k : ℕ) → i ≤ k → 2 ^ i ≤ 2 ^ k
less_rows i k few = pow-le-pow_right (let two : 0 < 2 = omega arith in two) few

-- a numerator has at most half as many coefficients as there are points
pub half_fits : (n k : ℕ) → n + n ≤ 2 ^ k → n ≤ 2 ^ (k - 1)
half_fits n k fits = elim (cases_lt 0 k) [
  | inl some ↦
      let up : suc (k - 1) ≡ k = omega (arith, some) in
      let double : 2 ^ suc (k - 1) ≡ 2 ^ (k - 1) * 2 = pow-suc 2 (k - 1) in
      let whole : 2 ^ k ≡ 2 ^ (k - 1) * 2 = ap (λ m. 2 ^ m) (sym up) ∙ double in
      omega (arith, fits, whole)
  | inr none ↦
      let e : k ≡ 0 = omega (arith, none) in
      let one : 2 ^ k ≡ 1 = ap (λ m. 2 ^ m) e in
      let empty : n ≡ 0 = omega (arith, fits, one) in
      omega (arith, empty)
]

pub numbered_by : (points read numbers reported next : List ℕ) → GivesElements (slice_index points) → read ≡ points → numbers ≡ map point_number read → reported ≡ numbers → length next ≡ 65536
    → ((j : ℕ) → j < length reported → IsListed (slice_index next) (get_or reported j 0)) → AreNumbered points numbers next
numbered_by points read numbers reported next fit read_is are reported_is places listed = record {
  count = count;
  small = λ j. elim (cases_lt j (length points)) [
    | inl low ↦ subst (λ x. x < 65536) (sym (number_is j low)) (point_number-lt (get_or points j 0))
    | inr high ↦ subst (λ x. x < 65536) (sym (get_or_past numbers j 0 (omega (arith, high, count)))) (omega arith)
  ];
  places = places;
  points_are = λ j low. ap point (number_is j low) ∙ point_of_number (get_or points j 0) (fit j);
  listed = λ j low. subst (λ xs. IsListed (slice_index next) (get_or xs j 0)) reported_is (listed j (let same = ap (λ (xs : List ℕ). length xs) reported_is in omega (arith, low, count, same)));
}
  where
    are_points : numbers ≡ map point_number points
    are_points = are ∙ ap (map point_number) read_is

    count : length numbers ≡ length points
    count = ap (λ (xs : List ℕ). length xs) are_points ∙ length-map points point_number

    number_is : (j : ℕ) → j < length points → get_or numbers j 0 ≡ point_number (get_or points j 0)
    number_is j low = ap (λ xs. get_or xs j 0) are_points ∙ get_or-map point_number points j 0 0 low

pub weighed_by : (k : ℕ) (sequence all reported weights : List ℕ) → reported ≡ all → length all ≡ 2 ^ k → ((i : ℕ) → i < 2 ^ k → get_or all i 0 ≡ get_or sequence i 0)
    → length weights ≡ length reported → GivesElements (slice_index weights)
    → ((given : ℕ → ℕ) (b : ℕ) → ((e : ℕ) → e < 2 ^ k → get_or reported e 0 ≡ given (b + e)) → AreWeights k given b (slice_index weights)) → IsWeighed k sequence weights
weighed_by k sequence all reported weights is count each size fit are = record {
  count = size ∙ ap (λ (xs : List ℕ). length xs) is ∙ count;
  fit = fit;
  are = are (slice_index sequence) 0 (λ e low. ap (λ xs. get_or xs e 0) is ∙ each e low ∙ ap (λ m. get_or sequence m 0) (sym (zero-add e)));
}

pub one_times : (x : ℕ) → x < 65536 → mul 1 x ≡ x
one_times x h = product_comm 1 x (omega arith) h ∙ product-one x h

pub words_at-lt : (sources : List (List ℕ)) (p : ℕ) → AreByteLists sources → GivesElements (words_at sources p)
words_at-lt sources p bytes i = word-lt (list_at sources i) p (bytes i)

-- the value of a polynomial whose further coefficients are 0
short_value : (n k : ℕ) (f g : ℕ → ℕ) (x : ℕ) → n ≤ 2 ^ k → ((m : ℕ) → m < n → f m ≡ g m) → ((m : ℕ) → n ≤ m → f m ≡ 0) → value (2 ^ k) f x ≡ value n g x
short_value n k f g x fits same none =
    field_sum_short n (2 ^ k) (λ m. mul (f m) (pow x m)) fits (λ m h. ap (λ v. mul v (pow x m)) (none m h) ∙ zero-product (pow x m))
    ∙ field_sum_same n (λ m. mul (f m) (pow x m)) (λ m. mul (g m) (pow x m)) (λ m h. ap (λ v. mul v (pow x m)) (same m h))

-- ---- numerators

pub numerators_are : (m : ℕ) (sequence weights : List ℕ) (sources : List (List ℕ)) (k at : ℕ) (rows filled values sums cleared gathered new : Grid)
    → length sources ≡ length sequence → length sequence + m ≤ 2 ^ k → AreByteLists sources → IsWeighed k sequence weights
    → rows.levels ≡ k → sums.levels ≡ k → rows.words ≡ sums.words
    → HaveFirst (length sources) (λ c s. words_at sources (at + c) s) rows filled → EachColumn (AreValues (length sources) filled.levels) filled values
    → cleared.levels ≡ sums.levels → cleared.words ≡ sums.words → ((c u : ℕ) → column cleared c u ≡ 0)
    → RowsGathered (slice_index weights) values (2 ^ cleared.levels) cleared gathered → EachColumn (ArePowerSums gathered.levels 0) gathered new
    → AreNumerators m sequence sources at sums new
numerators_are m sequence weights sources k at rows filled values sums cleared gathered new count fit bytes weighed rows_levels sums_levels same_words have values_are clear_levels clear_words zero gather power = record {
  levels = power.levels ∙ gather.levels ∙ clear_levels;
  words = power.words ∙ gather.words ∙ clear_words;
  each = λ c t low h.
      let w = words c in
      let w_fit = words_at-lt sources (at + c) bytes in
      power.columns c (omega (arith, low, gather.words, clear_words)) t (subst (λ l. t < 2 ^ l) (sym levels) (omega (arith, h, fit)))
      ∙ ap (λ m. power_sum m 0 (column gathered c) t) levels ∙ power_sum_plain (column gathered c) k t
      ∙ field_sum_same (2 ^ k) (λ u. mul (column gathered c u) (pow (point u) t)) (λ u. mul (mul (get_or weights u 0) (value n w (point u))) (pow (point u) t))
      (λ u l. ap (λ v. mul v (pow (point u) t)) (here c u low l))
      ∙ sym (hankel_sum k 0 n t (slice_index sequence) (slice_index weights) w weighed.fit w_fit (omega (arith, h, fit)) weighed.are)
      ∙ field_sum_same n (λ s. mul (get_or sequence (0 + (s + t)) 0) (w s)) (λ s. mul (get_or sequence (s + t) 0) (w s)) (λ s l. ap (λ m. mul (get_or sequence m 0) (w s)) (zero-add (s + t)));
}
  where
    n : ℕ
    n = length sequence

    words : ℕ → ℕ → ℕ
    words c = words_at sources (at + c)

    levels : gathered.levels ≡ k
    levels = gather.levels ∙ clear_levels ∙ sums_levels

    filled_levels : filled.levels ≡ k
    filled_levels = have.levels ∙ rows_levels

    value_is : (c u : ℕ) → c < sums.words → u < 2 ^ k → column values c u ≡ value n (words c) (point u)
    value_is c u low l =
        values_are.columns c (omega (arith, low, have.words, same_words)) (λ m high none. have.none c m high) u (subst (λ m. u < 2 ^ m) (sym filled_levels) l)
        ∙ ap (λ m. value (2 ^ m) (column filled c) (point u)) filled_levels
        ∙ short_value n k (column filled c) (words c) (point u) (omega (arith, fit)) (λ m h. have.first c m (omega (arith, low, same_words)) (omega (arith, h, count))) (λ m h. have.none c m (omega (arith, h, count)))

    here : (c u : ℕ) → c < sums.words → u < 2 ^ k → column gathered c u ≡ mul (get_or weights u 0) (value n (words c) (point u))
    here c u low l =
        gather.done c u (omega (arith, low, clear_words)) (subst (λ m. u < 2 ^ m) (sym (clear_levels ∙ sums_levels)) l)
        ∙ ap₂ bit_xor (zero c u) (ap (mul (get_or weights u 0)) (value_is c u low l)) ∙ xor_zero_l (mul (get_or weights u 0) (value n (words c) (point u)))

pub numerator-lt : (sequence : List ℕ) (sources : List (List ℕ)) (p t : ℕ) → AreByteLists sources → GivesElements (slice_index sequence) → numerator sequence (words_at sources p) t < 65536
numerator-lt sequence sources p t bytes fit =
    field_sum-lt (length sequence) (λ s. mul (get_or sequence (s + t) 0) (words_at sources p s)) (λ s. product-lt (get_or sequence (s + t) 0) (words_at sources p s) (fit (s + t)) (words_at-lt sources p bytes s))

-- ---- combinations, and their values at points

pub combinations_of : (k n : ℕ) (sequence : List ℕ) (sources : List (List ℕ)) (at : ℕ) (was sums cleared mid new : Grid) → length sequence ≤ 2 ^ k → n ≡ length sequence → new.words ≡ was.words → ((c u : ℕ) → column cleared c u ≡ 0)
    → AreNumerators n sequence sources at was sums → AreCopied (length sequence) sums cleared mid → EachColumn (IsCombination (length sequence) k) mid new → HoldNumerators k sequence sources at new
combinations_of k n sequence sources at was sums cleared mid new fits all words zero numerators copied combinations c x low hx =
    combinations.columns c (omega (arith, low, combinations.words)) (λ m high none. copied.rest c m high ∙ zero c m) x hx
    ∙ short_value (length sequence) k (column mid c) (numerator sequence (words_at sources (at + c))) x fits
    (λ m h. copied.first c m h ∙ numerators.each c m (omega (arith, low, words)) (omega (arith, h, all))) (λ m h. copied.rest c m h ∙ zero c m)

-- ---- the product, by the numerator's values

pub by_numerator : (n b x : ℕ) (h w : ℕ → ℕ) → b < 65536 → x < 65536 → GivesElements h → GivesElements w
    → mul b (value n (λ t. field_sum n (λ s. mul (h (s + t)) (w s))) x) ≡ field_sum n (λ s. mul (mul b (value n (from s h) x)) (w s))
by_numerator n b x h w hb hx hh hw =
    ap (mul b)
    (field_sum_same n (λ t. mul (field_sum n (λ s. mul (h (s + t)) (w s))) (pow x t)) (λ t. field_sum n (λ s. mul (mul (h (s + t)) (pow x t)) (w s)))
    (λ t l. sym (field_sum_linear n (λ v. mul v (pow x t)) (λ s. mul (h (s + t)) (w s)) (product_linear_left (pow x t)))
    ∙ field_sum_same n (λ s. mul (mul (h (s + t)) (w s)) (pow x t)) (λ s. mul (mul (h (s + t)) (pow x t)) (w s)) (λ s m. step (h (s + t)) (w s) (pow x t) (hh (s + t)) (hw s) (power-lt x t hx)))
    ∙ field_sum_swap n n (λ t s. mul (mul (h (s + t)) (pow x t)) (w s))
    ∙ field_sum_same n (λ s. field_sum n (λ t. mul (mul (h (s + t)) (pow x t)) (w s))) (λ s. mul (value n (from s h) x) (w s))
    (λ s l. field_sum_linear n (λ v. mul v (w s)) (λ t. mul (h (s + t)) (pow x t)) (product_linear_left (w s))))
    ∙ sym (field_sum_scaled n b (λ s. mul (value n (from s h) x) (w s)))
    ∙ field_sum_same n (λ s. mul b (mul (value n (from s h) x) (w s))) (λ s. mul (mul b (value n (from s h) x)) (w s))
    (λ s l. sym (product_assoc b (value n (from s h) x) (w s) hb (field_sum-lt n (λ t. mul (h (s + t)) (pow x t)) (λ t. product-lt (h (s + t)) (pow x t) (hh (s + t)) (power-lt x t hx))) (hw s)))
  where
    step : (a v p : ℕ) → a < 65536 → v < 65536 → p < 65536 → mul (mul a v) p ≡ mul (mul a p) v
    step a v p ha hv hp = product_assoc a v p ha hv hp ∙ ap (mul a) (product_comm v p hv hp) ∙ sym (product_assoc a p v ha hp hv)

-- the addition of a point's value to its output
pub given_is : (sequence points factors numbers next : List ℕ) (sources : List (List ℕ)) (k coset at : ℕ) (combinations old mid rows : Grid)
    → AreByteLists sources → GivesElements (slice_index sequence) → GivesElements (slice_index points) → GivesElements (slice_index factors) → AreNumbered points numbers next
    → AreCopied (2 ^ k) combinations old mid → EachColumn (AreListedValues (slice_index next) k coset) mid rows → combinations.words ≡ old.words → HoldNumerators k sequence sources at combinations
    → (j p : ℕ) → j < length points → at ≤ p → p < at + old.words → coset * 2 ^ k ≤ get_or numbers j 0 → get_or numbers j 0 < coset * 2 ^ k + 2 ^ k
    → mul (get_or factors j 0) (column rows (p - at) (get_or numbers j 0 - coset * 2 ^ k)) ≡ quotient_sum sequence points factors (words_at sources p) j
given_is sequence points factors numbers next sources k coset at combinations old mid rows bytes sequence_fit points_fit factors_fit numbered copied values same numerators j p low from_at within_words first last =
    ap (mul b)
    (values.columns c (omega (arith, from_at, within_words, copied.words)) u (omega (arith, first, last)) (subst (IsListed (slice_index next)) (sym number_is) (numbered.listed j low))
    ∙ combined_same k (column mid c) (column combinations c) (point (coset * 2 ^ k + u)) (λ m h. copied.first c m h)
    ∙ ap (combined k (column combinations c)) (ap point number_is ∙ numbered.points_are j low)
    ∙ numerators c x (omega (arith, from_at, within_words, same)) (points_fit j)
    ∙ ap (λ q. value n (numerator sequence (words_at sources q)) x) place)
    ∙ by_numerator n b x (slice_index sequence) w (factors_fit j) (points_fit j) sequence_fit (words_at-lt sources p bytes)
  where
    n : ℕ
    n = length sequence

    b : ℕ
    b = get_or factors j 0

    x : ℕ
    x = get_or points j 0

    c : ℕ
    c = p - at

    u : ℕ
    u = get_or numbers j 0 - coset * 2 ^ k

    w : ℕ → ℕ
    w = words_at sources p

    place : at + c ≡ p
    place = omega (arith, from_at)

    number_is : coset * 2 ^ k + u ≡ get_or numbers j 0
    number_is = omega (arith, first)

-- ---- one point

-- a point whose number, divided by the size of a coset, is the coset's
pub number_in_coset : (k coset number : ℕ) → number < 65536 → number / 2 ^ k ≡ coset
    → (coset * 2 ^ k % 18446744073709551616 ≡ coset * 2 ^ k) × (coset * 2 ^ k ≤ number) × (number < coset * 2 ^ k + 2 ^ k)
number_in_coset k coset number small is =
    let below : coset * 2 ^ k ≤ number = subst (λ q. q * 2 ^ k ≤ number) is (div-mul-le_self number (2 ^ k)) in
    let whole : coset * 2 ^ k + number % 2 ^ k ≡ number = subst (λ q. q * 2 ^ k + number % 2 ^ k ≡ number) is (div-add-mod' number (2 ^ k)) in
    let rest : number % 2 ^ k < 2 ^ k = mod-lt number {m = 2 ^ k} (pow_pos k) in
    (omega (arith, below, small), below, omega (arith, whole, rest))

-- a point outside of a coset
pub point_outside : (places : List Place) (len : ℕ) (numbers : List ℕ) (k coset j : ℕ) (given : ℕ → ℕ) (buffers : List (List ℕ)) → (get_or numbers j 0 / 2 ^ k ≡ coset → ⊥)
    → AddsAt places len (λ t p. within j (j + 1) t (in_coset numbers k coset j (given p))) buffers buffers
point_outside places len numbers k coset j given buffers outside =
    adds_none places len (λ t p. within j (j + 1) t (in_coset numbers k coset j (given p))) buffers
    (λ t p. within_zero j (j + 1) t (in_coset numbers k coset j (given p)) (elim (cases_lt (get_or numbers j 0) (coset * 2 ^ k)) [
      | inl before ↦ within-below (coset * 2 ^ k) (coset * 2 ^ k + 2 ^ k) (get_or numbers j 0) (given p) before
      | inr first ↦ elim (cases_lt (get_or numbers j 0) (coset * 2 ^ k + 2 ^ k)) [
        | inl last ↦ absurd (outside (subst (λ n. n / 2 ^ k ≡ coset) (let e : coset * 2 ^ k + (get_or numbers j 0 - coset * 2 ^ k) ≡ get_or numbers j 0 = omega (arith, first) in e) (div-mul-add coset (2 ^ k) (get_or numbers j 0 - coset * 2 ^ k) (omega (arith, first, last)))))
        | inr behind ↦ within-above (coset * 2 ^ k) (coset * 2 ^ k + 2 ^ k) (get_or numbers j 0) (given p) behind
      ]
    ]))

pub point_taken : (places : List Place) (len : ℕ) (numbers : List ℕ) (k coset j at to c b u : ℕ) (row : List WordVector) (rows : Grid) (was buffers : List (List ℕ)) → c ≡ b → ((q : ℕ) → word_of row q ≡ column rows q u)
    → u ≡ get_or numbers j 0 - coset * 2 ^ k → coset * 2 ^ k ≤ get_or numbers j 0 → get_or numbers j 0 < coset * 2 ^ k + 2 ^ k
    → AddsAt places len (λ t p. within j (j + 1) t (within at to p (mul c (word_of row (p - at))))) was buffers
    → AddsAt places len (λ t p. within j (j + 1) t (in_coset numbers k coset j (within at to p (mul b (column rows (p - at) (get_or numbers j 0 - coset * 2 ^ k)))))) was buffers
point_taken places len numbers k coset j at to c b u row rows was buffers factor words place first last added =
    adds_same places len (λ t p. within j (j + 1) t (within at to p (mul c (word_of row (p - at)))))
    (λ t p. within j (j + 1) t (in_coset numbers k coset j (within at to p (mul b (column rows (p - at) (get_or numbers j 0 - coset * 2 ^ k)))))) was buffers added
    (λ t p h fits. ap (within j (j + 1) t)
    (ap (within at to p) (ap₂ mul factor (words (p - at) ∙ ap (column rows (p - at)) place))
    ∙ sym (within-in (coset * 2 ^ k) (coset * 2 ^ k + 2 ^ k) (get_or numbers j 0) (within at to p (mul b (column rows (p - at) (get_or numbers j 0 - coset * 2 ^ k)))) first last)))

-- ---- outputs, one after the other

-- the first n outputs have been added
abbrev pub FirstAdded : List Place → ℕ → (ℕ → ℕ → ℕ) → ℕ → List (List ℕ) → List (List ℕ) → Type 0
FirstAdded places len part n was buffers = AddsAt places len (λ t p. within 0 n t (part t p)) was buffers

pub none_added_yet : (places : List Place) (len : ℕ) (part : ℕ → ℕ → ℕ) (buffers : List (List ℕ)) → FirstAdded places len part 0 buffers buffers
none_added_yet places len part buffers = adds_empty (λ t p. t) part 0 0 (omega arith)

pub one_added_more : (places : List Place) (len n : ℕ) (part : ℕ → ℕ → ℕ) (other : ℕ → ℕ) (was half buffers : List (List ℕ)) → FirstAdded places len part n was half
    → AddsAt places len (λ t p. within n (n + 1) t (other p)) half buffers → ((p : ℕ) → other p ≡ part n p) → FirstAdded places len part (n + 1) was buffers
one_added_more places len n part other was half buffers so_far added same =
    adds_range (λ t p. t) part 0 n (n + 1) so_far
    (adds_same places len (λ t p. within n (n + 1) t (other p)) (λ t p. within n (n + 1) t (part t p)) half buffers added
    (λ t p h fits. within_same n (n + 1) t (other p) (part t p) (λ low high. same p ∙ ap (λ m. part m p) (let e : n ≡ t = omega (arith, low, high) in e))))
    (omega arith) (omega arith)

pub all_added : (places : List Place) (len n : ℕ) (part : ℕ → ℕ → ℕ) (was buffers : List (List ℕ)) → length places ≡ n → FirstAdded places len part n was buffers → AddsAt places len part was buffers
all_added places len n part was buffers count added = adds_whole (λ t p. t) part n added (λ t p h fits. omega (arith, h, count))

-- the part of a coset in the sums: those of its points
abbrev pub coset_part : List ℕ → ℕ → ℕ → ℕ → ℕ → (ℕ → ℕ → ℕ) → ℕ → ℕ → ℕ
coset_part numbers k coset at to given t p = in_coset numbers k coset t (within at to p (given t p))

pub next_point : (places : List Place) (len : ℕ) (numbers : List ℕ) (k coset at to n : ℕ) (given other : ℕ → ℕ → ℕ) (was half buffers : List (List ℕ))
    → FirstAdded places len (coset_part numbers k coset at to given) n was half
    → AddsAt places len (λ t p. within n (n + 1) t (in_coset numbers k coset n (within at to p (other n p)))) half buffers
    → ((p : ℕ) → at ≤ p → p < to → coset * 2 ^ k ≤ get_or numbers n 0 → get_or numbers n 0 < coset * 2 ^ k + 2 ^ k → other n p ≡ given n p)
    → FirstAdded places len (coset_part numbers k coset at to given) (n + 1) was buffers
next_point places len numbers k coset at to n given other was half buffers so_far added same =
    one_added_more places len n (coset_part numbers k coset at to given) (λ p. in_coset numbers k coset n (within at to p (other n p))) was half buffers so_far added
    (λ p. within_same (coset * 2 ^ k) (coset * 2 ^ k + 2 ^ k) (get_or numbers n 0) (within at to p (other n p)) (within at to p (given n p))
    (λ first last. within_same at to p (other n p) (given n p) (λ a b. same p a b first last)))

-- row t of the sums, added to output t
pub next_row_added : (places : List Place) (len at to n : ℕ) (given : ℕ → ℕ → ℕ) (row : List WordVector) (was half buffers : List (List ℕ)) → FirstAdded places len (λ t p. within at to p (given t p)) n was half
    → AddsAt places len (λ t p. within n (n + 1) t (within at to p (mul 1 (word_of row (p - at))))) half buffers
    → ((p : ℕ) → at ≤ p → p < to → mul 1 (word_of row (p - at)) ≡ given n p) → FirstAdded places len (λ t p. within at to p (given t p)) (n + 1) was buffers
next_row_added places len at to n given row was half buffers so_far added same =
    one_added_more places len n (λ t p. within at to p (given t p)) (λ p. within at to p (mul 1 (word_of row (p - at)))) was half buffers so_far added
    (λ p. within_same at to p (mul 1 (word_of row (p - at))) (given n p) (same p))

-- ---- coset by coset

-- the first n cosets have been added
abbrev pub CosetsAdded : List Place → ℕ → List ℕ → ℕ → ℕ → ℕ → (ℕ → ℕ → ℕ) → ℕ → List (List ℕ) → List (List ℕ) → Type 0
CosetsAdded places len numbers k at to given n was buffers =
    AddsAt places len (λ t p. within 0 (n * 2 ^ k) (get_or numbers t 0) (within at to p (given t p))) was buffers

pub no_coset : (places : List Place) (len : ℕ) (numbers : List ℕ) (k at to : ℕ) (given : ℕ → ℕ → ℕ) (buffers : List (List ℕ)) → CosetsAdded places len numbers k at to given 0 buffers buffers
no_coset places len numbers k at to given buffers = adds_empty (λ t p. get_or numbers t 0) (λ t p. within at to p (given t p)) 0 (0 * 2 ^ k) (omega arith)

pub next_coset : (places : List Place) (len : ℕ) (numbers : List ℕ) (k at to n : ℕ) (given : ℕ → ℕ → ℕ) (was half buffers : List (List ℕ)) → CosetsAdded places len numbers k at to given n was half
    → AddsAt places len (λ t p. in_coset numbers k n t (within at to p (given t p))) half buffers → CosetsAdded places len numbers k at to given (n + 1) was buffers
next_coset places len numbers k at to n given was half buffers so_far added =
    let end : n * 2 ^ k + 2 ^ k ≡ (n + 1) * 2 ^ k = sym (add-mul n 1 (2 ^ k) ∙ ap (λ m. n * 2 ^ k + m) (one-mul (2 ^ k))) in
    subst (λ m. AddsAt places len (λ t p. within 0 m (get_or numbers t 0) (within at to p (given t p))) was buffers) end
    (adds_range (λ t p. get_or numbers t 0) (λ t p. within at to p (given t p)) 0 (n * 2 ^ k) (n * 2 ^ k + 2 ^ k) so_far added (omega arith) (omega arith))

pub all_cosets : (places : List Place) (len : ℕ) (numbers : List ℕ) (k at to n : ℕ) (given : ℕ → ℕ → ℕ) (was buffers : List (List ℕ)) → k ≤ 16 → n ≡ 2 ^ (16 - k) → ((t : ℕ) → get_or numbers t 0 < 65536)
    → CosetsAdded places len numbers k at to given n was buffers → AddsAt places len (λ t p. within at to p (given t p)) was buffers
all_cosets places len numbers k at to n given was buffers few is small added =
    let whole : n * 2 ^ k ≡ 65536 = ap (λ m. m * 2 ^ k) is ∙ sym (pow-add 2 (16 - k) k) ∙ ap (λ m. 2 ^ m) (let e : 16 - k + k ≡ 16 = omega (arith, few) in e) in
    adds_whole (λ t p. get_or numbers t 0) (λ t p. within at to p (given t p)) (n * 2 ^ k) added (λ t p h fits. omega (arith, whole, small t))

-- what `auto` is given for the code
pub ruleset locating = (get_or_past, less_rows, shifted_most, begins, columns_within, no_words, no_coset, wider_fit, none_added_yet, all_added, whole_apart, are_whole, no_first, next_first, one_times, words_at-lt)
