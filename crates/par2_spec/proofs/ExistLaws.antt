-- Slices that agree with the known ones and with the recovery slices of the kept exponents always exist.
use Rattle.par2_spec.proofs.Basics.{by_either, killed_vector, kept-iff, counts, counts-iff, byte_at, word-lt, spelled, length-spelled, bytes-spelled, word_of, product_linear_right, product-lt, product_comm, product-one, product_assoc, product-zero, has_inverse, clash, all-map, all_unmap, all-passing, contained_later, of_contained, all-filter, all-both}
use Rattle.par2_spec.proofs.Common.{◌≡◌, ℕ, zero, suc, ◌+◌, ◌*◌, ◌/◌, ◌%◌, ◌^◌, ◌<◌, ◌≤◌, List, [], ◌∷◌, length, map, drop, refl, sym, ap, ap₂, ◌∙◌, subst, arith, true, false, Bool, inl, inr, flat_map, slice_index, Option, Some, None, is_some, filter, ◌==◌, replicate, w16, to_le_bytes, xor_assoc, xor_self, xor_zero_r, range_with_len, AllByRecursion, AllZip, list_any, Contains, ForSome, xor_lt, xor_comm, length-map, AllZip-long, false≢true, cases_eq, or_cases, eqb-true, word, coefficients, dot, combination, recovery, IsVector, Kills, IsRepairable, Agrees, AnotherAgrees, kept, AreBytes, kept_slices, lost, AreElements, drop-cons, mul, coefficient, TwoListsAgree, bit_xor, AreSurvivors, times}
use Rattle.par2_spec.proofs.UniqueLaws.{times_elements, sums, AreBuffers, IsZeroAtKnown, at_lost, lost_from, dot-at_lost, dot-sums, whole_row, dot-lt, coefficients_are, sums-elements, words_are, same_words}

-- ---- a vector over the lost slices, among all slices

-- its elements at the lost positions, 0 at the known ones
abbrev spread : List (Option (List ℕ)) → List ℕ → List ℕ
spread [] v = []
spread (None ∷ ks) [] = 0 ∷ spread ks []
spread (None ∷ ks) (x ∷ v) = x ∷ spread ks v
spread (Some y ∷ ks) v = 0 ∷ spread ks v

length-spread : (ks : List (Option (List ℕ))) (v : List ℕ) → length (spread ks v) ≡ length ks
length-spread [] v = refl
length-spread (None ∷ ks) [] = ap suc (length-spread ks [])
length-spread (None ∷ ks) (x ∷ v) = ap suc (length-spread ks v)
length-spread (Some y ∷ ks) v = ap suc (length-spread ks v)

elements-spread : (ks : List (Option (List ℕ))) (v : List ℕ) → AreElements v → AreElements (spread ks v)
elements-spread [] v h = tt
elements-spread (None ∷ ks) [] h = (omega arith, elements-spread ks [] tt)
elements-spread (None ∷ ks) (x ∷ v) h = (h.0, elements-spread ks v h.1)
elements-spread (Some y ∷ ks) v h = (omega arith, elements-spread ks v h)

zero-spread : (ks : List (Option (List ℕ))) (v : List ℕ) → IsZeroAtKnown ks (spread ks v)
zero-spread [] v = tt
zero-spread (None ∷ ks) [] = zero-spread ks []
zero-spread (None ∷ ks) (x ∷ v) = zero-spread ks v
zero-spread (Some y ∷ ks) v = (refl, zero-spread ks v)

at_lost-spread : (i : ℕ) (ks : List (Option (List ℕ))) (v : List ℕ) → length v ≡ length (lost_from i ks) → at_lost ks (spread ks v) ≡ v
at_lost-spread i [] [] e = refl
at_lost-spread i (None ∷ ks) (x ∷ v) e = ap (λ w. x ∷ w) (at_lost-spread (i + 1) ks v (omega (arith, e)))
at_lost-spread i (Some y ∷ ks) v e = at_lost-spread (i + 1) ks v e
at_lost-spread i ks v e = absurd (omega (arith, e))

zero_at_lost : (ks : List (Option (List ℕ))) (d : List ℕ) → AllByRecursion (λ x. x ≡ 0) d → AllByRecursion (λ x. x ≡ 0) (at_lost ks d)
zero_at_lost (k ∷ ks) (x ∷ d) h = grind (arith, (zero_at_lost ks d h.1))
zero_at_lost ks d h = grind arith

-- ---- an element added to the first word of a buffer

abbrev word_added : ℕ → List ℕ → List ℕ
word_added x [] = []
word_added x (a ∷ []) = a ∷ []
word_added x (a ∷ b ∷ bytes) = bit_xor x (a + 256 * b) % 256 ∷ bit_xor x (a + 256 * b) / 256 ∷ bytes

parts-lt : (y : ℕ) → y < 2 ^ 16 → (y % 256 < 256) × (y / 256 < 256)
parts-lt y h = (omega arith, omega (arith, h))

bytes-word_added : (x : ℕ) (content : List ℕ) → x < 2 ^ 16 → AllByRecursion (λ b. b < 256) content → AllByRecursion (λ b. b < 256) (word_added x content)
bytes-word_added x [] small h = tt
bytes-word_added x (a ∷ []) small h = h
bytes-word_added x (a ∷ b ∷ content) small h = grind (arith, (parts-lt (bit_xor x (a + 256 * b)) (xor_lt 16 x (a + 256 * b) small (omega (arith, h.0, h.1.0)))))

-- ---- the elements of a vector added to the buffers, each to its own

abbrev words_added : List ℕ → List (List ℕ) → List (List ℕ)
words_added [] buffers = buffers
words_added (x ∷ d) [] = []
words_added (x ∷ d) (bytes ∷ buffers) = word_added x bytes ∷ words_added d buffers

length-words_added : (d : List ℕ) (buffers : List (List ℕ)) → length (words_added d buffers) ≡ length buffers
length-words_added (x ∷ d) (bytes ∷ buffers) = ap suc (length-words_added d buffers)
length-words_added d buffers = refl

sizes-words_added : (s : ℕ) (d : List ℕ) (buffers : List (List ℕ)) → AllByRecursion (λ bytes. length bytes ≡ s) buffers → AllByRecursion (λ bytes. length bytes ≡ s) (words_added d buffers)
sizes-words_added s (x ∷ d) (bytes ∷ buffers) h = grind (arith, sizes-words_added s d buffers h.1)
sizes-words_added s d buffers h = grind arith

bytes-words_added : (d : List ℕ) (buffers : List (List ℕ)) → AreElements d → AreBuffers buffers → AreBuffers (words_added d buffers)
bytes-words_added (x ∷ d) (content ∷ buffers) small h = (bytes-word_added x content small.0 h.0, bytes-words_added d buffers small.1 h.1)
bytes-words_added d buffers small h = grind arith

first_words : (s : ℕ) (d : List ℕ) (buffers : List (List ℕ)) → 2 ≤ s → AllByRecursion (λ bytes. length bytes ≡ s) buffers → length d ≡ length buffers → map (word 0) (words_added d buffers) ≡ sums d (map (word 0) buffers)
first_words s [] [] some h e = refl
first_words s (x ∷ d) (bytes ∷ buffers) some h e = grind (arith, first_words s d buffers some h.1 (omega (arith, e)))
first_words s d buffers some h e = absurd (omega (arith, e))

later_words : (p : ℕ) (d : List ℕ) (buffers : List (List ℕ)) → map (word (suc p)) (words_added d buffers) ≡ map (word (suc p)) buffers
later_words p (x ∷ d) (bytes ∷ buffers) = grind (arith, later_words p d buffers)
later_words p d buffers = refl

-- the known slices stay as they are
known-words_added : (ks : List (Option (List ℕ))) (v : List ℕ) (buffers : List (List ℕ)) → AreBuffers buffers → AllZip (λ slice bytes. ForSome slice (λ found. bytes ≡ found)) ks buffers
    → AllZip (λ slice bytes. ForSome slice (λ found. bytes ≡ found)) ks (words_added (spread ks v) buffers)
known-words_added (None ∷ ks) [] (bytes ∷ buffers) small h = ((λ found e. absurd (false≢true (ap is_some e))), known-words_added ks [] buffers small.1 h.1)
known-words_added (None ∷ ks) (x ∷ v) (bytes ∷ buffers) small h = ((λ found e. absurd (false≢true (ap is_some e))), known-words_added ks v buffers small.1 h.1)
known-words_added (Some y ∷ ks) v (bytes ∷ buffers) small h = grind (arith, known-words_added ks v buffers small.1 h.1)
known-words_added ks v buffers small h = grind arith

-- ---- recovery slices

-- a vector that an exponent kills changes no recovery slice of it
same_recovery : (s e : ℕ) (d : List ℕ) (buffers : List (List ℕ)) → 2 ≤ s → AllByRecursion (λ bytes. length bytes ≡ s) buffers → length d ≡ length buffers → dot (whole_row (length buffers) e) d ≡ 0 → recovery s (words_added d buffers) e ≡ recovery s buffers e
unfolding recovery combination
same_recovery s e d buffers some sizes long killed =
    ap (λ n. combination s (whole_row n e) (words_added d buffers)) (length-words_added d buffers)
    ∙ ap (λ (f : ℕ → ℕ). flat_map (λ p. to_le_bytes w16 (f p)) (range_with_len 0 (s / 2))) (λ i p. same_dot p i)
  where
    row : List ℕ
    row = whole_row (length buffers) e

    same_dot : (p : ℕ) → dot row (map (word p) (words_added d buffers)) ≡ dot row (map (word p) buffers)
    same_dot zero =
        grind (arith, (first_words s d buffers some sizes long), (dot-sums row d (map (word 0) buffers) (long ∙ sym (length-map buffers (word 0)))), killed)
    same_dot (suc p) = ap (dot row) (later_words p d buffers)

-- ---- another list agrees

no_change : (d u : List ℕ) → length d ≡ length u → sums d u ≡ u → AllByRecursion (λ x. x ≡ 0) d
no_change (x ∷ d) (y ∷ u) e h =
    let first : bit_xor x y ≡ y = ap (λ ws. slice_index ws 0) h in
    (sym (xor_assoc x y y ∙ ap (bit_xor x) (xor_self y) ∙ xor_zero_r x) ∙ ap (λ t. bit_xor t y) first ∙ xor_self y, no_change d u (omega (arith, e)) (ap (drop 1) h))
no_change d u e h = grind arith

pub another_agrees : (s : ℕ) (known : List (Option (List ℕ))) (rs : List (ℕ × List ℕ)) (slices : List (List ℕ)) → 2 ≤ s → (IsRepairable (lost known) (map (λ r. r.0) rs) → ⊥) → Agrees s known rs slices → AnotherAgrees s known rs slices
another_agrees s known rs slices some unrepairable agrees = (
  words_added d slices,
  record {
    sizes = sizes-words_added s d slices agrees.sizes;
    bytes = bytes-words_added d slices (elements-spread known v found.1.1) agrees.bytes;
    as_known = known-words_added known v slices agrees.bytes agrees.as_known;
    as_recovered = all-both (λ r. Kills (lost known) r.0 v) _ _ (λ r k is. same_recovery s r.0 d slices some agrees.sizes long (killed r.0 k) ∙ is)
        rs (all_unmap (λ e. Kills (lost known) e v) (λ r. r.0) rs found.2) agrees.as_recovered;
  },
  λ same. found.3 (subst (AllByRecursion (λ x. x ≡ 0)) back (zero_at_lost known d (no_change d (map (word 0) slices) (long ∙ sym (length-map slices (word 0))) (sym (first_words s d slices some agrees.sizes long) ∙ ap (map (word 0)) same)))),
)
  where
    found : (v : List ℕ) × IsVector (length (lost known)) v × AllByRecursion (λ e. Kills (lost known) e v) (map (λ r. r.0) rs) × (AllByRecursion (λ x. x ≡ 0) v → ⊥)
    found = killed_vector (lost known) (map (λ r. r.0) rs) unrepairable

    v : List ℕ
    v = found.0

    d : List ℕ
    d = spread known v

    all : length slices ≡ length known
    all = AllZip-long (λ slice bytes. ForSome slice (λ found. bytes ≡ found)) known slices agrees.as_known

    long : length d ≡ length slices
    long = length-spread known v ∙ sym all

    back : at_lost known d ≡ v
    back = at_lost-spread 0 known v found.1.0

    killed : (e : ℕ) → Kills (lost known) e v → dot (whole_row (length slices) e) d ≡ 0
    killed e h = ap (λ n. dot (whole_row n e) d) all ∙ dot-at_lost e 0 known d (zero-spread known v) ∙ ap (dot (coefficients (lost known) e)) back ∙ h

-- ---- a vector times an element

dot-scaled : (c : ℕ) (row v : List ℕ) → c < 2 ^ 16 → AreElements row → AreElements v → dot row (times c v) ≡ mul c (dot row v)
unfolding dot
dot-scaled c (r ∷ row) (x ∷ v) small hr hv =
    ap₂ bit_xor (sym (product_assoc r c x hr.0 small hv.0) ∙ ap (λ t. mul t x) (product_comm r c hr.0 small) ∙ product_assoc c r x small hr.0 hv.0) (dot-scaled c row v small hr.1 hv.1)
    ∙ sym ((product_linear_right c).on_xor (mul r x) (dot row v))
dot-scaled c row v small hr hv = sym (product-zero c)

pub length-sums : (u v : List ℕ) → length u ≡ length v → length (sums u v) ≡ length v
length-sums (x ∷ u) (y ∷ v) e = ap suc (length-sums u v (omega (arith, e)))
length-sums u v e = grind arith

-- ---- a vector with a given product for each kept exponent

pub zeros_are : (n : ℕ) → IsVector n (replicate n 0)
zeros_are zero = (refl, tt)
zeros_are (suc n) = let rest = zeros_are n in (ap suc rest.0, (omega arith, rest.1))

-- x plus a multiple of v, so that the product with the row is this number
record Moved (row x v : List ℕ) (goal : ℕ) : Type 0 where
  vector : List ℕ
  factor : ℕ
  small : factor < 2 ^ 16
  is : vector ≡ sums (times factor v) x
  hits : dot row vector ≡ goal

moved : (row x v : List ℕ) (goal : ℕ) → AreElements row → AreElements x → AreElements v → length v ≡ length x → goal < 2 ^ 16 → (dot row v ≡ 0 → ⊥) → Moved row x v goal
moved row x v goal hr hx hv long small nonzero =
    let d : ℕ = dot row v in
    let d_small : d < 65536 = dot-lt row v hr hv in
    let q : ℕ = dot row x in
    let inverse : (b : ℕ) × ((b < 65536) × (mul d b ≡ 1)) =
    (has_inverse d (elim (cases_eq d 0) as (λ _. 0 < d) [ inl none ↦ absurd (nonzero none) | inr some ↦ omega (arith, some) ]) d_small) in
    let r : ℕ = bit_xor goal q in
    let r_small : r < 65536 = xor_lt 16 goal q small (dot-lt row x hr hx) in
    let c : ℕ = mul r inverse.0 in
    let c_small : c < 2 ^ 16 = product-lt r inverse.0 r_small inverse.1.0 in
    let comes_back : mul c d ≡ r =
    product_assoc r inverse.0 d r_small inverse.1.0 d_small ∙ ap (mul r) (product_comm inverse.0 d inverse.1.0 d_small ∙ inverse.1.1) ∙ product-one r r_small in
    record {
      vector = sums (times c v) x;
      factor = c;
      small = c_small;
      is = refl;
      hits =
          grind (arith, (dot-sums row (times c v) x (length-map v (mul c) ∙ long)), (dot-scaled c row v c_small hr hv), comes_back, (xor_assoc goal q q), (xor_self q), (xor_zero_r goal));
    }

-- the kept exponents below m have their given products with the vector
pub record IsSolved (is es : List ℕ) (goal : ℕ → ℕ) (m : ℕ) : Type 0 where
  pub vector : List ℕ
  pub is_vector : IsVector (length is) vector
  pub gives : (e : ℕ) → e < m → Contains (kept is es) e → dot (coefficients is e) vector ≡ goal e

pub solved : (is es : List ℕ) (goal : ℕ → ℕ) → ((e : ℕ) → goal e < 2 ^ 16) → (m : ℕ) → IsSolved is es goal m
solved is es goal small zero = record { vector = replicate (length is) 0; is_vector = zeros_are (length is); gives = λ e lt c. absurd (omega (arith, lt)) }
solved is es goal small (suc m) = step (counts (kept is es) m) refl (solved is es goal small m)
  where
    step : (b : Bool) → counts (kept is es) m ≡ b → IsSolved is es goal m → IsSolved is es goal (suc m)
    step false out before = record {
      vector = before.vector;
      is_vector = before.is_vector;
      gives = λ e lt c. by_either (cases_eq e m)
          (λ here. absurd (clash ((counts-iff (kept is es) m).1 (subst (Contains (kept is es)) here c)) out))
          (λ other. before.gives e (omega (arith, lt, other)) c);
    }
    step true in_kept before =
        let reported = (kept-iff is es m).0 ((counts-iff (kept is es) m).0 in_kept) in
        let v = reported.1.0 in
        let v_is = reported.1.1 in
        let new = moved (coefficients is m) before.vector v (goal m) (coefficients_are m is) before.is_vector.1 v_is.1 (v_is.0 ∙ sym before.is_vector.0) (small m) reported.1.3 in
        let long : length (times new.factor v) ≡ length before.vector = length-map v (mul new.factor) ∙ v_is.0 ∙ sym before.is_vector.0 in record {
          vector = new.vector;
          is_vector = (
            ap length new.is ∙ length-sums (times new.factor v) before.vector long ∙ before.is_vector.0,
            subst AreElements (sym new.is) (sums-elements (times new.factor v) before.vector (times_elements new.factor v new.small v_is.1) before.is_vector.1),
          );
          gives = λ e lt c. elim (cases_eq e m) as (λ _. dot (coefficients is e) new.vector ≡ goal e) [
            | inl here ↦ subst (λ k. dot (coefficients is k) new.vector ≡ goal k) (sym here) new.hits
            | inr other ↦
                let low : e < m = omega (arith, lt, other) in
                let killed : dot (coefficients is e) v ≡ 0 = of_contained (λ k. k < m → Kills is k v) es e reported.1.2 (((kept-iff is es e).0 c).0) low in
                grind (arith, new.is, (dot-sums (coefficients is e) (times new.factor v) before.vector long), (dot-scaled new.factor (coefficients is e) v new.small (coefficients_are e is) v_is.1), killed, (product-zero new.factor), (before.gives e low c))
          ];
        }

-- ---- slices with the known ones and these buffers at the lost positions

-- the j-th lost slice and the later ones are the buffers from the j-th on
abbrev filled : (ℕ → List ℕ) → ℕ → List (Option (List ℕ)) → List (List ℕ)
filled bytes j [] = []
filled bytes j (Some y ∷ ks) = y ∷ filled bytes j ks
filled bytes j (None ∷ ks) = bytes j ∷ filled bytes (j + 1) ks

length-filled : (bytes : ℕ → List ℕ) (j : ℕ) (ks : List (Option (List ℕ))) → length (filled bytes j ks) ≡ length ks
length-filled bytes j [] = refl
length-filled bytes j (k ∷ ks) = grind (arith, (length-filled bytes j ks), (length-filled bytes (j + 1) ks))

all-filled : (P : List ℕ → Type 0) (bytes : ℕ → List ℕ) → ((j : ℕ) → P (bytes j)) → (j : ℕ) (ks : List (Option (List ℕ))) → AllByRecursion (λ slice. ForSome slice P) ks → AllByRecursion P (filled bytes j ks)
all-filled P bytes h j [] k = tt
all-filled P bytes h j (y ∷ ks) k = grind (arith, (all-filled P bytes h j ks k.1), (all-filled P bytes h (j + 1) ks k.1))

known-filled : (bytes : ℕ → List ℕ) (j : ℕ) (ks : List (Option (List ℕ))) → AllZip (λ slice found. ForSome slice (λ y. found ≡ y)) ks (filled bytes j ks)
known-filled bytes j [] = tt
known-filled bytes j (k ∷ ks) = grind (arith, false≢true, (known-filled bytes j ks), (known-filled bytes (j + 1) ks))

-- the known slices' part of a word of a recovery slice
abbrev of_known : ℕ → ℕ → List (Option (List ℕ)) → ℕ → ℕ
of_known e i [] p = 0
of_known e i (Some y ∷ ks) p = bit_xor (mul (coefficient e i) (word p y)) (of_known e (i + 1) ks p)
of_known e i (None ∷ ks) p = of_known e (i + 1) ks p

-- a word of a recovery slice: the part of the lost slices, whose words are the elements of a vector, plus the part of
-- the known ones
dot-filled : (e p i j : ℕ) (bytes : ℕ → List ℕ) (v : List ℕ) (ks : List (Option (List ℕ))) → ((k : ℕ) → word p (bytes k) ≡ slice_index v k) → length (lost_from i ks) + j ≡ length v
    → dot (coefficients (range_with_len i (length ks)) e) (map (word p) (filled bytes j ks)) ≡ bit_xor (dot (coefficients (lost_from i ks) e) (drop j v)) (of_known e i ks p)
unfolding dot
dot-filled e p i j bytes v [] same long = refl
dot-filled e p i j bytes v (Some y ∷ ks) same long =
    let exchange : (a b c : ℕ) → bit_xor a (bit_xor b c) ≡ bit_xor b (bit_xor a c) = λ a b c. sym (xor_assoc a b c) ∙ ap (λ t. bit_xor t c) (xor_comm a b) ∙ xor_assoc b a c in
    grind (arith, (dot-filled e p (i + 1) j bytes v ks same long), (exchange (mul (coefficient e i) (word p y)) (dot (coefficients (lost_from (i + 1) ks) e) (drop j v)) (of_known e (i + 1) ks p)))
dot-filled e p i j bytes v (None ∷ ks) same long =
    let one_more : suc j ≡ j + 1 = omega arith in
    let next : drop j v ≡ slice_index v j ∷ drop (j + 1) v = drop-cons v j 0 (omega (arith, long)) ∙ ap (λ n. slice_index v j ∷ drop n v) one_more in
    ap₂ bit_xor (ap (mul (coefficient e i)) (same j)) (dot-filled e p (i + 1) (j + 1) bytes v ks same (omega (arith, long)))
    ∙ sym (xor_assoc (mul (coefficient e i) (slice_index v j)) (dot (coefficients (lost_from (i + 1) ks) e) (drop (j + 1) v)) (of_known e (i + 1) ks p))
    ∙ ap (λ w. bit_xor (dot (coefficients (lost_from i (None ∷ ks)) e) w) (of_known e (i + 1) ks p)) (sym next)

-- ---- slices that agree

element_at : (v : List ℕ) (j : ℕ) → AreElements v → slice_index v j < 2 ^ 16
element_at (x ∷ v) (suc j) h = element_at v j h.1
element_at v j h = grind arith

of_known-lt : (e i : ℕ) (ks : List (Option (List ℕ))) (p : ℕ) → AllByRecursion (λ slice. ForSome slice AreBytes) ks → of_known e i ks p < 2 ^ 16
of_known-lt e i [] p h = omega arith
of_known-lt e i (Some y ∷ ks) p h =
    xor_lt 16 _ _ (product-lt (coefficient e i) (word p y) (coefficients_are e (i ∷ [])).0 (word-lt y p (byte_at y (h.0 y refl)))) (of_known-lt e (i + 1) ks p h.1)
of_known-lt e i (None ∷ ks) p h = of_known-lt e (i + 1) ks p h.1

contained : (xs : List ℕ) (q : ℕ) → list_any (λ x. x == q) xs ≡ true → Contains xs q
contained [] q h = absurd (false≢true h)
contained (x ∷ xs) q h =
    by_either (or_cases (x == q) (list_any (λ y. y == q) xs) h) (λ here. (0, omega arith, eqb-true x q here)) (λ there. contained_later x xs q (contained xs q there))

-- a recovery slice is determined by its words
as_spelled : (s : ℕ) (buffers : List (List ℕ)) (e : ℕ) → recovery s buffers e ≡ spelled (λ p. dot (whole_row (length buffers) e) (map (word p) buffers)) 0 (s / 2)
as_spelled s buffers e = unfold recovery combination in refl

pub agreeing_exist :
    (s m : ℕ) (known : List (Option (List ℕ))) (recovery : List (ℕ
    × List ℕ)) (bytes : ℕ → List ℕ) → AreSurvivors s m known recovery bytes
    → let kept = kept_slices (lost known) (map (λ r. r.0) recovery) recovery in
    (slices : List (List ℕ)) × Agrees s known kept slices
agreeing_exist s m known rs content survive =
    let es : List ℕ = map (λ r. r.0) rs in
    let goal : ℕ → ℕ → ℕ = λ p e. bit_xor (word p (content e)) (of_known e 0 known p) in
    let small : (p e : ℕ) → goal p e < 2 ^ 16 = λ p e. xor_lt 16 _ _ (word-lt (content e) p (byte_at (content e) (survive.bytes e))) (of_known-lt e 0 known p survive.known_bytes) in
    let at : (p : ℕ) → IsSolved (lost known) es (goal p) m = λ p. solved (lost known) es (goal p) (small p) m in
    let element : (j p : ℕ) → slice_index (at p).vector j < 2 ^ 16 = λ j p. element_at (at p).vector j (at p).is_vector.1 in
    let made : ℕ → List ℕ = λ j. spelled (λ p. slice_index (at p).vector j) 0 (s / 2) in
    let slices : List (List ℕ) = filled made 0 known in
    let whole : 2 * (s / 2) ≡ s = (let even = survive.even in omega (arith, even)) in
    let sizes : AllByRecursion (λ y. length y ≡ s) slices =
    all-filled (λ y. length y ≡ s) made (λ j. length-spelled (λ p. slice_index (at p).vector j) 0 (s / 2) ∙ whole) 0 known survive.known_sizes in
    let bytes : AreBuffers slices = all-filled AreBytes made (λ j. bytes-spelled (λ p. slice_index (at p).vector j) 0 (s / 2)) 0 known survive.known_bytes in
    let recovers : (r : ℕ × List ℕ) → r.0 < m → length r.1 ≡ s → content r.0 ≡ r.1 → Contains (kept (lost known) es) r.0 → recovery s slices r.0 ≡ r.1 = (λ r low size is_bytes is_kept.
    let dots : ℕ → ℕ = λ p. dot (whole_row (length slices) r.0) (map (word p) slices) in
    let dots_small : (p : ℕ) → dots p < 2 ^ 16 =
    λ p. dot-lt (whole_row (length slices) r.0) (map (word p) slices) (coefficients_are r.0 (range_with_len 0 (length slices))) (words_are p slices bytes) in
    let spelling : recovery s slices r.0 ≡ spelled dots 0 (s / 2) = as_spelled s slices r.0 in
    let is_spelled : length (recovery s slices r.0) ≡ length (spelled dots 0 (s / 2)) = ap length spelling in
    let of_word : (p : ℕ) → p < s / 2 → dots p ≡ word p r.1 = (λ p lt.
    ap (λ n. dot (whole_row n r.0) (map (word p) slices)) (length-filled made 0 known)
    ∙ dot-filled r.0 p 0 0 made (at p).vector known (λ j. word_of (λ q. slice_index (at q).vector j) (element j) (s / 2) p lt) (let e = (at p).is_vector.0 in omega (arith, e))
    ∙ ap (λ t. bit_xor t (of_known r.0 0 known p)) ((at p).gives r.0 low is_kept)
    ∙ xor_assoc (word p (content r.0)) (of_known r.0 0 known p) (of_known r.0 0 known p)
    ∙ ap (bit_xor (word p (content r.0))) (xor_self (of_known r.0 0 known p)) ∙ xor_zero_r (word p (content r.0)) ∙ ap (word p) is_bytes) in
    same_words s (recovery s slices r.0) r.1 survive.even (is_spelled ∙ length-spelled dots 0 (s / 2) ∙ whole) size (subst AreBytes (sym spelling) (bytes-spelled dots 0 (s / 2)))
    (subst AreBytes is_bytes (survive.bytes r.0))
    (λ p lt. ap (word p) spelling ∙ word_of dots dots_small (s / 2) p lt ∙ of_word p lt)) in (
      slices,
      record {
        sizes = sizes;
        bytes = bytes;
        as_known = known-filled made 0 known;
        as_recovered = all-passing _ (λ r. recovery s slices r.0 ≡ r.1) _ (λ r h is_kept. recovers r h.0 h.1 h.2 (contained (kept (lost known) es) r.0 is_kept)) rs survive.each;
      },
    )

-- a vector that all exponents kill is killed by the kept ones
kills_kept : (P : ℕ → Type 0) (p : ℕ × List ℕ → Bool) (rs : List (ℕ × List ℕ)) → AllByRecursion P (map (λ r. r.0) rs) → AllByRecursion P (map (λ r. r.0) (filter p rs))
kills_kept P p rs h = all-map (λ r. P r.0) P (λ r. r.0) (λ r k. k) (filter p rs) (all-filter (λ r. P r.0) p rs (all_unmap P (λ r. r.0) rs h))

pub two_agree : TwoListsAgree
two_agree s m known rs bytes survive some unrepairable =
    let one = agreeing_exist s m known rs bytes survive in (
      one.0,
      one.1,
      another_agrees s known (kept_slices (lost known) (map (λ r. r.0) rs) rs) one.0 some
          (λ repairable. unrepairable (λ v is killed. repairable v is (kills_kept (λ e. Kills (lost known) e v) _ rs killed))) one.1,
    )
