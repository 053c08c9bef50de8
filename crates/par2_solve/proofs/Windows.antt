-- The syndromes of a window: those of the holes solve the holes' equations, and those of the run give the lost slices.
use Rattle.par2_solve.proofs.Common.{by_either, ℕ, suc, ◌+◌, ◌-◌, ◌^◌, ◌<◌, ◌≤◌, ◌≡◌, refl, sym, ap, ap₂, ◌∙◌, subst, arith, true, false, cond, not, List, [], length, get_or, map, take, bit_xor, xor_zero_l, AllByRecursion, Contains, range_with_len, cases_lt, le-ltb, length-map, get_or-map, get_or-range_with_len, get_or-map-range_with_len, length-map-range_with_len, Contains-get_or, mul, constant, coefficients, dot, field_sum, dot_sum, product_at, dot-lt, coefficients_are, field_sum_same, with_roots_elements, all_at, all_from, ◌*◌, false≢true, get_or-take, length-reverse, get_or_past, get_or-reverse, length-take-le, GivesElements, slice_index, identity, list_at, lists_of, word, word-lt, words_are, AreByteLists, AreProducts, AreSums, AreSolved, products, reverse, not-true, xor_self, with_roots_monic, holes, is_hole, locator, shifted, shifted_at, span, IsFillingFor, IsOriginAt, falling, from_origin, known_window, right_side, words_at, Filling, Origin, Exponent, Hole, combined, sum_of_row, rises_between, rises_differ, constants-lt, below, window_dot, shifted_sum, none_given, given, recurrence, holes_rise, filter_all, range_all, hole_place, others, window_parted, exponent_no_hole, locator_long, shifted_vector, same_values, Recurs, alike, reversed}

-- ---- the falling coefficients

pub falling_long : (p : List ℕ) (w : ℕ) → length (falling p w) ≡ w
falling_long p w = length-reverse (map (slice_index p) (range_with_len 0 w)) ∙ length-map-range_with_len (slice_index p) 0 w

-- those from place w - 1 - y on are the coefficients of the polynomial times a power of z at y
falling_shifted : (p : List ℕ) (w u y : ℕ) → y < w → get_or (falling p w) (w - 1 - y + u) 0 ≡ shifted_at p u y
falling_shifted p w u y low = by_either (cases_lt y u)
    (λ before. get_or_past (falling p w) (w - 1 - y + u) 0 (let long = falling_long p w in omega (arith, low, before, long)) ∙ sym (below p u y before))
    (λ high.
    let many = length-map-range_with_len (slice_index p) 0 w in
    let i = w - 1 - y + u in
    get_or-reverse (map (slice_index p) (range_with_len 0 w)) i 0 (omega (arith, low, high, many))
    ∙ ap (λ m. get_or (map (slice_index p) (range_with_len 0 w)) (m - 1 - i) 0) many
    ∙ get_or-map-range_with_len (slice_index p) 0 w (w - 1 - i) (y - u) 0 (omega (arith, low, high)) (omega (arith, low, high))
    ∙ sym (ap (λ b. cond b 0 (get_or p (y - u) 0)) (le-ltb y u high)))

-- ---- the syndromes of the window, at one word

-- the origin of number x of the window
abbrev pub origin_at : List Origin → ℕ → Origin
origin_at origins x = get_or origins x (Exponent 0)

module _ (ks es : List ℕ) (filling : Filling) (is : IsFillingFor ks es filling) (some : 0 < length es) (sources right filled : List (List ℕ)) (source_bytes : AreByteLists sources) (right_bytes : AreByteLists right) (filled_bytes : AreByteLists filled)
    (w : ℕ) (right_is : (u : ℕ) → u < filling.equations.count → word w (list_at right u) ≡ right_side filling sources w u)
    (filled_is : (q : ℕ) → q < length (holes es) → word w (list_at filled q) ≡ products filling.equations.count (lists_of filling.holes.items) right q w) where
  abbrev n : ℕ
  n = filling.equations.count

  abbrev width : ℕ
  width = span es + 1

  abbrev p : List ℕ
  p = locator ks

  abbrev origin : ℕ → Origin
  origin = origin_at filling.origins.items

  -- the word of the syndrome of a number, and the same with none for the holes
  abbrev syndrome_at : ℕ → ℕ
  syndrome_at x = word w (from_origin sources filled (origin x))

  abbrev known_at : ℕ → ℕ
  known_at x = word w (from_origin sources [] (origin x))

  syndrome_elements : GivesElements syndrome_at
  syndrome_elements x = of_origin (origin x)
    where
      of_origin : (o : Origin) → word w (from_origin sources filled o) < 65536
      of_origin (Exponent j) = word-lt (list_at sources j) w (source_bytes j)
      of_origin (Hole q) = word-lt (list_at filled q) w (filled_bytes q)

  -- an exponent's origin is no hole, and a hole's is no exponent
  no_exponent : (x j : ℕ) → is_hole es x ≡ true → IsOriginAt es x (Exponent j) → ⊥
  no_exponent x j hole h = false≢true (sym (exponent_no_hole es x (subst (Contains es) h.1 (Contains-get_or es j 0 h.0))) ∙ hole)

  no_hole_origin : (x q : ℕ) → is_hole es x ≡ false → IsOriginAt es x (Hole q) → ⊥
  no_hole_origin x q other h = false≢true (sym other ∙ ap (is_hole es) (sym h.1) ∙ (hole_place es q h.0).1)

  none_known : (x : ℕ) → x < span es + 1 → is_hole es x ≡ true → known_at x ≡ 0
  none_known x low hole = of_origin (origin x) (is.origins.each x low)
    where
      nothing : (q i : ℕ) → get_or (list_at [] q) i 0 ≡ 0
      nothing q i = ap (λ xs. get_or xs i 0) (get_or_past [] q [] (omega arith)) ∙ get_or_past [] i 0 (omega arith)

      of_origin : (o : Origin) → IsOriginAt es x o → word w (from_origin sources [] o) ≡ 0
      of_origin (Exponent j) h = absurd (no_exponent x j hole h)
      of_origin (Hole q) h = ap₂ (λ a b. a + 256 * b) (nothing q (2 * w)) (nothing q (2 * w + 1))

  all_known : (x : ℕ) → x < span es + 1 → is_hole es x ≡ false → known_at x ≡ syndrome_at x
  all_known x low other = of_origin (origin x) (is.origins.each x low)
    where
      of_origin : (o : Origin) → IsOriginAt es x o → word w (from_origin sources [] o) ≡ word w (from_origin sources filled o)
      of_origin (Exponent j) h = refl
      of_origin (Hole q) h = absurd (no_hole_origin x q other h)

  filled_at : (q : ℕ) → q < length (holes es) → syndrome_at (get_or (holes es) q 0) ≡ word w (list_at filled q)
  filled_at q low = of_origin (origin x) (is.origins.each x (omega (arith, place.0)))
    where
      x : ℕ
      x = get_or (holes es) q 0

      place : (get_or (holes es) q 0 < span es) × (is_hole es (get_or (holes es) q 0) ≡ true)
      place = hole_place es q low

      of_origin : (o : Origin) → IsOriginAt es (get_or (holes es) q 0) o → word w (from_origin sources filled o) ≡ word w (list_at filled q)
      of_origin (Exponent j) h = absurd (no_exponent x j place.1 h)
      of_origin (Hole r) h = ap (λ i. word w (list_at filled i)) (rises_differ (holes es) (holes_rise es) r q h.0 low h.1)

  source_at : (x j : ℕ) → x < span es + 1 → j < length es → get_or es 0 0 + x ≡ get_or es j 0 → syndrome_at x ≡ word w (list_at sources j)
  source_at x j low within same = of_origin (origin x) (is.origins.each x low)
    where
      of_origin : (o : Origin) → IsOriginAt es x o → word w (from_origin sources filled o) ≡ word w (list_at sources j)
      of_origin (Exponent i) h = ap (λ k. word w (list_at sources k)) (rises_differ es is.rise i j h.0 within (h.1 ∙ same))
      of_origin (Hole q) h = absurd (no_hole_origin x q (exponent_no_hole es x (subst (Contains es) (sym same) (Contains-get_or es j 0 within))) h)

  -- a right-hand side is the sum over the exponents
  right_others : (u : ℕ) → u < filling.equations.count → word w (list_at right u) ≡ dot (map (shifted_at (locator ks) u) (others es)) (map syndrome_at (others es))
  right_others u low =
      let items : List Origin = filling.origins.items in
      let many : length filling.origins.items ≡ span es + 1 = is.origins.count in
      let window : List (List ℕ) = known_window filling.origins.items sources in
      let falls : List ℕ = falling (locator ks) (span es + 1) in
      let a : ℕ → ℕ = shifted_at (locator ks) u in
      let at_holes : AllByRecursion (λ y. known_at y ≡ 0) (holes es) = filter_all (λ y. known_at y ≡ 0) (is_hole es) (range_with_len 0 (span es)) (range_all (λ y. is_hole es y ≡ true → known_at y ≡ 0) (span es) (λ y hy e. none_known y (omega (arith, hy)) e)) in
      let at_others : AllByRecursion (λ y. known_at y ≡ syndrome_at y) (others es) = filter_all (λ y. known_at y ≡ syndrome_at y) (λ y. not (is_hole es y)) (range_with_len 0 (span es + 1)) (range_all (λ y. not (is_hole es y) ≡ true → known_at y ≡ syndrome_at y) (span es + 1) (λ y hy e. all_known y hy (not-true (is_hole es y) e))) in
      right_is u low
      ∙ ap (λ sequence. field_sum (length sequence) (λ s. mul (get_or sequence (s + u) 0) (words_at window w s))) is.sequence
      ∙ ap (λ m. field_sum m (λ s. mul (get_or falls (s + u) 0) (words_at window w s))) (falling_long p width)
      ∙ field_sum_same width (λ s. mul (get_or falls (s + u) 0) (words_at window w s)) (λ s. mul (a (width - 1 - s)) (known_at (width - 1 - s))) (λ s hs. ap₂ mul
      (ap (λ i. get_or falls i 0) (let e : s + u ≡ width - 1 - (width - 1 - s) + u = omega (arith, hs) in e) ∙ falling_shifted p width u (width - 1 - s) (omega (arith, hs)))
      (ap (word w)
      (get_or-map (from_origin sources []) (reverse items) s (Exponent 0) [] (let long = length-reverse items in omega (arith, hs, long, many))
      ∙ ap (from_origin sources []) (get_or-reverse items s (Exponent 0) (omega (arith, hs, many)) ∙ ap (λ m. origin_at items (m - 1 - s)) many))))
      ∙ reversed width (λ y. mul (a y) (known_at y))
      ∙ sym (window_dot a known_at width)
      ∙ window_parted es a known_at is.rise some
      ∙ ap (λ x. bit_xor x (dot (map a (others es)) (map known_at (others es)))) (none_given a known_at (holes es) at_holes)
      ∙ xor_zero_l (dot (map a (others es)) (map known_at (others es)))
      ∙ ap (dot (map a (others es))) (same_values known_at syndrome_at (others es) at_others)

  -- and that over the holes
  right_holes : (u : ℕ) → u < filling.equations.count → dot (map (shifted_at (locator ks) u) (holes es)) (map syndrome_at (holes es)) ≡ word w (list_at right u)
  right_holes u low =
      let hs : List ℕ = holes es in
      let h : ℕ = length (holes es) in
      let a : ℕ → ℕ = shifted_at (locator ks) u in
      let x : ℕ → ℕ → ℕ = λ q v. get_or (list_at (lists_of filling.holes.items) q) v 0 in
      let b : ℕ → ℕ = λ v. word w (list_at right v) in
      let b_elements : GivesElements b = λ v. word-lt (list_at right v) w (right_bytes v) in
      dot_sum h (map a hs) (map syndrome_at hs) (let long = length-map hs a in omega (arith, long))
      ∙ field_sum_same h (product_at (map a hs) (map syndrome_at hs)) (λ q. mul (get_or (map a hs) q 0) (field_sum n (λ v. mul (x q v) (b v)))) (λ q hq. ap (mul (get_or (map a hs) q 0)) (get_or-map syndrome_at hs q 0 0 hq ∙ filled_at q hq ∙ filled_is q hq))
      ∙ combined h n (λ q. get_or (map a hs) q 0) x b (all_at (λ c. c < 65536) 0 (omega arith) (shifted p u hs) (shifted_vector p hs u (with_roots_elements (map constant ks) (constants-lt ks))).1) (λ q hq. all_at (λ c. c < 65536) 0 (omega arith) (list_at (lists_of filling.holes.items) q) (is.holes.vectors q hq).1) b_elements
      ∙ field_sum_same n (λ v. mul (field_sum h (λ q. mul (get_or (map a hs) q 0) (x q v))) (b v)) (λ v. mul (identity u v) (b v)) (λ v hv. ap (λ z. mul z (b v)) (is.holes.product u v low hv))
      ∙ sum_of_row n u b low b_elements

  -- so the syndromes of the window satisfy the locator's recurrence
  window_recurs : Recurs (slice_index (locator ks)) (length ks) filling.equations.count syndrome_at
  window_recurs u low =
      let long : length (locator ks) ≡ suc (length ks) = locator_long ks in
      ap (λ m. field_sum m (λ k. mul (get_or p k 0) (syndrome_at (u + k)))) (sym long)
      ∙ sym (shifted_sum p u width syndrome_at (let fit = is.fit in let square = is.square in omega (arith, long, low, fit, square)))
      ∙ window_parted es (shifted_at p u) syndrome_at is.rise some
      ∙ ap₂ bit_xor (right_holes u low) (sym (right_others u low))
      ∙ xor_self (word w (list_at right u))

  -- and a vector that solves the equations of the run solves those of the exponents
  pub window_solved : (v : List ℕ) → AllByRecursion (λ y. y < 2 ^ 16) v → ((x : ℕ) → x < length ks → given ks v (get_or es 0 0 + x) ≡ syndrome_at x) → (j : ℕ) → j < length ks → given ks v (get_or es j 0) ≡ word w (list_at sources j)
  window_solved v elements run j low =
      let f : ℕ = get_or es 0 0 in
      let x : ℕ = get_or es j 0 - get_or es 0 0 in
      let given_here : ℕ → ℕ = λ y. given ks v (f + y) in
      let square : length es ≡ length ks = is.square in
      let here : j < length es = omega (arith, low, square) in
      let back : get_or es 0 0 + (get_or es j 0 - get_or es 0 0) ≡ get_or es j 0 = let by = rises_between es is.rise 0 j (omega arith) here in omega (arith, by) in
      let within : get_or es j 0 - get_or es 0 0 < span es + 1 =
      let last = rises_between es is.rise j (length es - 1) (omega (arith, here)) (omega (arith, some)) in
      omega (arith, last) in
      let monic : get_or (locator ks) (length ks) 0 ≡ 1 = ap (λ m. get_or (locator ks) m 0) (sym (length-map ks constant)) ∙ with_roots_monic (map constant ks) (constants-lt ks) in
      ap (given ks v) (sym back)
      ∙ alike (slice_index p) given_here syndrome_at (length ks) n monic (λ y. dot-lt (coefficients ks (f + y)) v (coefficients_are (f + y) ks) elements) syndrome_elements
      (λ u hu. ap (λ m. field_sum m (λ k. mul (get_or p k 0) (given ks v (f + (u + k))))) (sym (locator_long ks))
      ∙ field_sum_same (length p) (λ k. mul (get_or p k 0) (given ks v (f + (u + k)))) (λ k. mul (get_or p k 0) (given ks v (f + u + k))) (λ k _. ap (λ e. mul (get_or p k 0) (given ks v e)) (let e : f + (u + k) ≡ f + u + k = omega arith in e))
      ∙ recurrence ks v (f + u) elements)
      window_recurs run (suc x) x (omega arith) (let fit = is.fit in omega (arith, within, fit, square))
      ∙ source_at x j within here back

-- ---- the products

pub filled_solve : (ks es : List ℕ) (filling : Filling) (size : ℕ) (sources right filled run sums : List (List ℕ)) → IsFillingFor ks es filling → length sources ≡ length ks
    → AreByteLists sources → AreByteLists right → AreByteLists filled → AreByteLists sums → AreSums size filling.equations.count (right_side filling sources) right → AreProducts size (lists_of filling.holes.items) right filled
    → run ≡ map (from_origin sources filled) (take (length sources) filling.origins.items) → AreSolved size ks (range_with_len (get_or es 0 0) (length ks)) (words_at run) sums → AreSolved size ks es (words_at sources) sums
filled_solve ks es filling size sources right filled run sums is many source_bytes right_bytes filled_bytes sum_bytes right_are filled_are run_is solved =
    let within : ℕ → length sources ≤ length filling.origins.items = λ w. let count = is.origins.count in let fit = is.fit in let square = is.square in omega (arith, many, count, fit, square) in
    record {
      count = solved.count;
      sizes = solved.sizes;
      words = λ j w low fits.
          window_solved ks es filling is (let square = is.square in omega (arith, low, square)) sources right filled source_bytes right_bytes filled_bytes w
          (λ u hu. right_are.words u w hu fits)
          (λ q hq. filled_are.words q w (let count = is.holes.count in omega (arith, hq, count)) fits ∙ ap (λ m. products m (lists_of filling.holes.items) right q w) right_are.count)
          (map (word w) sums) (words_are w sums (all_from (λ (content : List ℕ). AllByRecursion (λ b. b < 256) content) [] sums (λ i _. all_from (λ b. b < 256) 0 (list_at sums i) (λ k _. sum_bytes i k))))
          (λ x hx.
          ap (given ks (map (word w) sums)) (sym (get_or-range_with_len (get_or es 0 0) (length ks) x 0 hx))
          ∙ solved.words x w hx fits
          ∙ ap (λ ls. word w (list_at ls x)) run_is
          ∙ ap (word w) (get_or-map (from_origin sources filled) (take (length sources) filling.origins.items) x (Exponent 0) [] (let taken = length-take-le (length sources) filling.origins.items (within w) in omega (arith, hx, many, taken)))
          ∙ ap (λ o. word w (from_origin sources filled o)) (get_or-take (length sources) filling.origins.items x (Exponent 0) (omega (arith, hx, many))))
          j low;
    }
