-- If the lost slices are determined, at most one list agrees.
use Rattle.par2_spec.proofs.Common.{◌≡◌, ℕ, zero, suc, ◌+◌, ◌/◌, ◌%◌, ◌^◌, ◌<◌, ◌≤◌, List, [], ◌∷◌, length, map, take, drop, get_or, refl, sym, ap, ◌∙◌, subst, cond, true, Bool, arith, flat_map, filter, ◌==◌, Option, Some, None, is_none, w16, to_le_bytes, from_le_bytes, xor_self, range_with_len, enumerate_from, list_any, AllByRecursion, AllZip, Contains, ForSome, xor_lt, from_le_bytes-to_le_bytes_2, length-map, or_right, cases_eq, AllZip-long, mul, coefficient, word, coefficients, dot, combination, recovery, kept, IsVector, Kills, IsRepairable, Agrees, kept_slices, IsRebuilt, AreElements, ParSet, lost, survivors, bit_xor, recursion_from_All, All-contains_itself, ◌-◌, ap₂, ◌≢◌, false, xor_comm, Contains-get_or, eqb-false, xor_assoc, xor_zero_r, xor_zero_l, IsDistinct, times, times_root, ArePoints, value, plus, with_roots, quotient, nat_eq}
use Rattle.par2_spec.proofs.Basics.{by_either, xor_middle, product_linear_right, product-lt, product-zero, power-lt, constant-lt, clash, kept-iff, byte_at, word-lt, same_buffers, xor_same, all-both, all-map, all-each, all_weaker, product_linear_left, product_assoc, product_comm, product-one, zero-product, no_zero_divisor, has_inverse, xor_off, of_contained, contained_first, contained_later, all_from, all_at}
use Rattle.std.specs.FinMap as map_of

-- ---- sums of lists

-- the sum at each position
abbrev pub sums : List ℕ → List ℕ → List ℕ
sums [] v = []
sums (x ∷ u) [] = []
sums (x ∷ u) (y ∷ v) = bit_xor x y ∷ sums u v

pub dot-sums : (row u v : List ℕ) → length u ≡ length v → dot row (sums u v) ≡ bit_xor (dot row u) (dot row v)
unfolding dot
dot-sums (c ∷ row) (x ∷ u) (y ∷ v) e = grind (arith, ((product_linear_right c).on_xor x y), (dot-sums row u v (omega (arith, e))), (xor_middle (mul c x) (mul c y) (dot row u) (dot row v)))
dot-sums row u v e = grind arith

pub dot-lt : (row v : List ℕ) → AreElements row → AreElements v → dot row v < 2 ^ 16
unfolding dot
dot-lt (c ∷ row) (x ∷ v) h k = xor_lt 16 (mul c x) (dot row v) (product-lt c x h.0 k.0) (dot-lt row v h.1 k.1)
dot-lt row v h k = omega arith

pub coefficients_are : (e : ℕ) (is : List ℕ) → AreElements (coefficients is e)
unfolding coefficient
coefficients_are e is = all-each _ (coefficient e) (λ i. power-lt _ e (constant-lt i)) is

-- ---- words

abbrev pub AreBuffers : List (List ℕ) → Type 0
AreBuffers buffers = AllByRecursion (λ bytes. AllByRecursion (λ b. b < 256) bytes) buffers

pub words_are : (p : ℕ) (buffers : List (List ℕ)) → AreBuffers buffers → AreElements (map (word p) buffers)
words_are p buffers h = all-map _ _ (word p) (λ bytes small. word-lt bytes p (byte_at bytes small)) buffers h

-- buffers of an even length with the same words are equal
pub same_words : (s : ℕ) (a b : List ℕ) → s % 2 ≡ 0 → length a ≡ s → length b ≡ s → AllByRecursion (λ x. x < 256) a → AllByRecursion (λ x. x < 256) b → ((p : ℕ) → p < s / 2 → word p a ≡ word p b) → a ≡ b
same_words s a b even la lb ha hb same = same_buffers s a b even la lb (byte_at a ha) (byte_at b hb) (λ w h. same w (omega (arith, h)))

-- ---- equal recovery slices have equal sums

pieces : (f g : ℕ → ℕ) (a n : ℕ) → flat_map (λ p. to_le_bytes w16 (f p)) (range_with_len a n) ≡ flat_map (λ p. to_le_bytes w16 (g p)) (range_with_len a n)
    → (p : ℕ) → a ≤ p → p < a + n → to_le_bytes w16 (f p) ≡ to_le_bytes w16 (g p)
pieces f g a zero e p low high = absurd (omega (arith, low, high))
pieces f g a (suc n) e p low high = by_either (cases_eq a p)
    (λ same. subst (λ q. to_le_bytes w16 (f q) ≡ to_le_bytes w16 (g q)) same (ap (take 2) e))
    (λ other. pieces f g (a + 1) n (ap (drop 2) e) p (omega (arith, low, other)) (omega (arith, high)))

same_number : (m n : ℕ) → m < 2 ^ 16 → n < 2 ^ 16 → to_le_bytes w16 m ≡ to_le_bytes w16 n → m ≡ n
same_number m n small_m small_n e = sym (from_le_bytes-to_le_bytes_2 m small_m) ∙ ap (from_le_bytes w16) e ∙ from_le_bytes-to_le_bytes_2 n small_n

-- the row of a recovery slice over n slices
abbrev pub whole_row : ℕ → ℕ → List ℕ
whole_row n e = coefficients (range_with_len 0 n) e

same_dots : (s e : ℕ) (a b : List (List ℕ)) → AreBuffers a → AreBuffers b → length a ≡ length b → recovery s a e ≡ recovery s b e → (p : ℕ) → p < s / 2
    → dot (whole_row (length a) e) (map (word p) a) ≡ dot (whole_row (length a) e) (map (word p) b)
same_dots s e a b ha hb long h p lt = unfold recovery combination in
    let row = whole_row (length a) e in
    let same = subst (λ n. recovery s a e ≡ combination s (whole_row n e) b) (sym long) h in
    same_number (dot row (map (word p) a)) (dot row (map (word p) b)) (dot-lt row (map (word p) a) (coefficients_are e (range_with_len 0 (length a))) (words_are p a ha))
    (dot-lt row (map (word p) b) (coefficients_are e (range_with_len 0 (length a))) (words_are p b hb))
    (pieces (λ q. dot row (map (word q) a)) (λ q. dot row (map (word q) b)) 0 (s / 2) same p (omega arith) (omega (arith, lt)))

-- ---- a vector that is zero except at the lost slices

abbrev pub lost_from : ℕ → List (Option (List ℕ)) → List ℕ
lost_from i ks = map (λ z. z.0) (filter (λ z. is_none z.1) (enumerate_from i ks))

-- zero at each known slice
abbrev pub IsZeroAtKnown : List (Option (List ℕ)) → List ℕ → Type 0
IsZeroAtKnown [] [] = Unit {0}
IsZeroAtKnown [] (x ∷ d) = ⊥
IsZeroAtKnown (k ∷ ks) [] = ⊥
IsZeroAtKnown (None ∷ ks) (x ∷ d) = IsZeroAtKnown ks d
IsZeroAtKnown (Some y ∷ ks) (x ∷ d) = (x ≡ 0) × IsZeroAtKnown ks d

-- the elements at the lost slices
abbrev pub at_lost : List (Option (List ℕ)) → List ℕ → List ℕ
at_lost [] d = []
at_lost (k ∷ ks) [] = []
at_lost (None ∷ ks) (x ∷ d) = x ∷ at_lost ks d
at_lost (Some y ∷ ks) (x ∷ d) = at_lost ks d

length-at_lost : (i : ℕ) (ks : List (Option (List ℕ))) (d : List ℕ) → IsZeroAtKnown ks d → length (at_lost ks d) ≡ length (lost_from i ks)
length-at_lost i (None ∷ ks) (x ∷ d) z = ap suc (length-at_lost (i + 1) ks d z)
length-at_lost i (Some y ∷ ks) (x ∷ d) z = length-at_lost (i + 1) ks d z.1
length-at_lost i ks d z = grind arith

elements-at_lost : (ks : List (Option (List ℕ))) (d : List ℕ) → AreElements d → AreElements (at_lost ks d)
elements-at_lost (k ∷ ks) (x ∷ d) h = grind (arith, (elements-at_lost ks d h.1))
elements-at_lost ks d h = grind arith

-- the sum over all slices is that over the lost ones
pub dot-at_lost : (e i : ℕ) (ks : List (Option (List ℕ))) (d : List ℕ) → IsZeroAtKnown ks d → dot (coefficients (range_with_len i (length ks)) e) d ≡ dot (coefficients (lost_from i ks) e) (at_lost ks d)
unfolding dot
dot-at_lost e i (None ∷ ks) (x ∷ d) z = ap (bit_xor (mul (coefficient e i) x)) (dot-at_lost e (i + 1) ks d z)
dot-at_lost e i (Some y ∷ ks) (x ∷ d) z =
    ap (λ t. bit_xor (mul (coefficient e i) t) (dot (coefficients (range_with_len (i + 1) (length ks)) e) d)) z.0
    ∙ ap (λ t. bit_xor t (dot (coefficients (range_with_len (i + 1) (length ks)) e) d)) (product-zero (coefficient e i))
    ∙ dot-at_lost e (i + 1) ks d z.1
dot-at_lost e i ks d z = grind arith

all_zero : (ks : List (Option (List ℕ))) (d : List ℕ) → IsZeroAtKnown ks d → AllByRecursion (λ x. x ≡ 0) (at_lost ks d) → AllByRecursion (λ x. x ≡ 0) d
all_zero (None ∷ ks) (x ∷ d) z h = (h.0, all_zero ks d z h.1)
all_zero (Some y ∷ ks) (x ∷ d) z h = (z.0, all_zero ks d z.1 h)
all_zero ks d z h = grind arith

pub no_difference : (u v : List ℕ) → length u ≡ length v → AllByRecursion (λ x. x ≡ 0) (sums u v) → u ≡ v
no_difference [] [] e h = refl
no_difference (x ∷ u) (y ∷ v) e h = ap (λ z. z ∷ u) (xor_same x y h.0) ∙ ap (λ w. y ∷ w) (no_difference u v (omega (arith, e)) h.1)
no_difference u v e h = absurd (omega (arith, e))

pub sums-elements : (u v : List ℕ) → AreElements u → AreElements v → AreElements (sums u v)
sums-elements (x ∷ u) (y ∷ v) h k = (xor_lt 16 x y h.0 k.0, sums-elements u v h.1 k.1)
sums-elements u v h k = tt

-- two lists that agree with the known slices are equal there
zero_at_known : (ks : List (Option (List ℕ))) (a b : List (List ℕ)) (p : ℕ) → AllZip (λ slice bytes. ForSome slice (λ found. bytes ≡ found)) ks a → AllZip (λ slice bytes. ForSome slice (λ found. bytes ≡ found)) ks b
    → IsZeroAtKnown ks (sums (map (word p) a) (map (word p) b))
zero_at_known (None ∷ ks) (x ∷ a) (y ∷ b) p h k = zero_at_known ks a b p h.1 k.1
zero_at_known (Some z ∷ ks) (x ∷ a) (y ∷ b) p h k =
    (ap (λ t. bit_xor (word p t) (word p y)) (h.0 z refl) ∙ ap (λ t. bit_xor (word p z) (word p t)) (k.0 z refl) ∙ xor_self (word p z), zero_at_known ks a b p h.1 k.1)
zero_at_known ks a b p h k = grind arith

-- ---- a vector that all kept exponents kill is killed by all survivors

pub all_from_contains : (P : ℕ → Type 0) (xs : List ℕ) → ((q : ℕ) → Contains xs q → P q) → AllByRecursion P xs
all_from_contains P xs h = all_weaker (Contains xs) P h xs (recursion_from_All (Contains xs) xs (All-contains_itself xs))

killed_by_bound : (is es : List ℕ) (v : List ℕ) → IsVector (length is) v → ((e : ℕ) → Contains (kept is es) e → Kills is e v) → (m e : ℕ) → e < m → Contains es e → Kills is e v
killed_by_bound is es v vector kills zero e lt c = absurd (omega (arith, lt))
killed_by_bound is es v vector kills (suc m) e lt c = by_either (cases_eq (dot (coefficients is e) v) 0)
    (λ here. here)
    (λ other. kills e ((kept-iff is es e).1 (c, (v, vector, all_from_contains (λ x. x < e → Kills is x v) es (λ x d l. killed_by_bound is es v vector kills m x (omega (arith, l, lt)) d), other))))

pub kept_kill_all : (is es : List ℕ) (v : List ℕ) → IsVector (length is) v → ((e : ℕ) → Contains (kept is es) e → Kills is e v) → AllByRecursion (λ e. Kills is e v) es
kept_kill_all is es v vector kills = all_from_contains (λ e. Kills is e v) es (λ e c. killed_by_bound is es v vector kills (suc e) e (omega arith) c)

-- ---- the recovery slice of each kept exponent is there

at_key : (P : ℕ → Type 0) (t : ℕ → Bool) (rs : List (ℕ × List ℕ)) (e : ℕ) → AllByRecursion (λ r. P r.0) (filter (λ r. t r.0) rs) → t e ≡ true → (k : ℕ) → k < length (map (λ r. r.0) rs) → get_or (map (λ r. r.0) rs) k e ≡ e → P e
at_key P t [] e h i k lt here = absurd (omega (arith, lt))
at_key P t (r ∷ rs) e h i zero lt here = grind (arith, clash)
at_key P t (r ∷ rs) e h i (suc k) lt here =
    let rest : (b : Bool) (qs : List (ℕ × List ℕ)) → AllByRecursion (λ q. P q.0) (cond b (r ∷ qs) qs) → AllByRecursion (λ q. P q.0) qs = λ b qs l. grind arith in
    at_key P t rs e (rest (t r.0) (filter (λ q. t q.0) rs) h) i k (omega (arith, lt)) here

any_here : (xs : List ℕ) (e k : ℕ) → k < length xs → get_or xs k e ≡ e → list_any (λ x. x == e) xs ≡ true
any_here (x ∷ xs) e (suc k) lt here = or_right _ _ (any_here xs e k (omega (arith, lt)) here)
any_here xs e k lt here = grind arith

of_kept : (P : ℕ → Type 0) (is : List ℕ) (rs : List (ℕ × List ℕ)) → AllByRecursion (λ r. P r.0) (kept_slices is (map (λ r. r.0) rs) rs) → (e : ℕ) → Contains (kept is (map (λ r. r.0) rs)) e → P e
of_kept P is rs h e c =
    let there = ((kept-iff is (map (λ r. r.0) rs) e).0 c).0 in
    at_key P (λ x. list_any (λ y. y == x) (kept is (map (λ r. r.0) rs))) rs e h (any_here (kept is (map (λ r. r.0) rs)) e c.0 c.1 c.2) there.0 there.1 there.2

both_recovered : (s : ℕ) (a b : List (List ℕ)) (rs : List (ℕ × List ℕ)) → AllByRecursion (λ r. recovery s a r.0 ≡ r.1) rs → AllByRecursion (λ r. recovery s b r.0 ≡ r.1) rs → AllByRecursion (λ r. recovery s a r.0 ≡ recovery s b r.0) rs
both_recovered s a b rs h k = all-both (λ r. recovery s a r.0 ≡ r.1) (λ r. recovery s b r.0 ≡ r.1) (λ r. recovery s a r.0 ≡ recovery s b r.0) (λ r p q. p ∙ sym q) rs h k

-- ---- at most one list agrees

all_same : (s : ℕ) (a b : List (List ℕ)) → s % 2 ≡ 0 → length a ≡ length b → AllByRecursion (λ bytes. length bytes ≡ s) a → AllByRecursion (λ bytes. length bytes ≡ s) b → AreBuffers a → AreBuffers b
    → ((p : ℕ) → p < s / 2 → map (word p) a ≡ map (word p) b) → a ≡ b
all_same s [] [] even e la lb ha hb same = refl
all_same s (x ∷ a) (y ∷ b) even e la lb ha hb same = grind (arith, same_words, (all_same s a b even (omega (arith, e)) la.1 lb.1 ha.1 hb.1 (λ p lt. ap (drop 1) (same p lt))))
all_same s a b even e la lb ha hb same = absurd (omega (arith, e))

pub agreeing_are_one :
    (s : ℕ) (known : List (Option (List ℕ))) (recovery : List (ℕ
    × List ℕ)) (one other : List (List ℕ))
    → s % 2 ≡ 0 → IsRepairable (lost known) (map (λ r. r.0) recovery)
    → Agrees s known (kept_slices (lost known) (map (λ r. r.0) recovery) recovery) one
    → Agrees s known (kept_slices (lost known) (map (λ r. r.0) recovery) recovery) other
    → one ≡ other
agreeing_are_one s known rs a b even repairable ga gb =
    let words_alike : (p : ℕ) → p < s / 2 → length a ≡ length known → length b ≡ length known → map (word p) a ≡ map (word p) b = (λ p lt long_a long_b.
    let u = map (word p) a in
    let v = map (word p) b in
    let long : length u ≡ length v = length-map a (word p) ∙ long_a ∙ sym long_b ∙ sym (length-map b (word p)) in
    let d = sums u v in
    let z = zero_at_known known a b p ga.as_known gb.as_known in
    let vector : IsVector (length (lost known)) (at_lost known d) = (length-at_lost 0 known d z, elements-at_lost known d (sums-elements u v (words_are p a ga.bytes) (words_are p b gb.bytes))) in
    let kills = (λ (e : ℕ) (c : Contains (kept (lost known) (map (λ r. r.0) rs)) e).
    sym (dot-at_lost e 0 known d z)
    ∙ dot-sums (coefficients (range_with_len 0 (length known)) e) u v long
    ∙ ap (λ t. bit_xor t (dot (whole_row (length known) e) v))
    (subst (λ n. dot (whole_row n e) u ≡ dot (whole_row n e) v) long_a (same_dots s e a b ga.bytes gb.bytes (long_a ∙ sym long_b)
    (of_kept (λ x. recovery s a x ≡ recovery s b x) (lost known) rs (both_recovered s a b (kept_slices (lost known) (map (λ r. r.0) rs) rs) ga.as_recovered gb.as_recovered) e c) p lt))
    ∙ xor_self (dot (whole_row (length known) e) v)) in
    no_difference u v long (all_zero known d z (repairable (at_lost known d) vector (kept_kill_all (lost known) (map (λ r. r.0) rs) (at_lost known d) vector kills)))) in
    let long_a : length a ≡ length known = AllZip-long (λ slice content. ForSome slice (λ found. content ≡ found)) known a ga.as_known in
    let long_b : length b ≡ length known = AllZip-long (λ slice content. ForSome slice (λ found. content ≡ found)) known b gb.as_known in
    all_same s a b even (long_a ∙ sym long_b) ga.sizes gb.sizes ga.bytes gb.bytes (λ p lt. words_alike p lt (long_a) (long_b))

-- a list that agrees is the rebuilt one
pub agreeing_is_rebuilt : (set : ParSet) (known : List (Option (List ℕ))) (slices : List (List ℕ)) → set.slice_size % 2 ≡ 0 → IsRepairable (lost known) (survivors set)
    → Agrees set.slice_size known (kept_slices (lost known) (survivors set) (map_of.entries set.recovery)) slices → IsRebuilt set.slice_size known (kept_slices (lost known) (survivors set) (map_of.entries set.recovery)) slices
agreeing_is_rebuilt set known slices even repairable agrees = search (arith, agreeing_are_one)

-- Values, products and quotients of polynomials.

-- ---- elements and lengths

pub value-lt : (p : List ℕ) (z : ℕ) → AreElements p → z < 2 ^ 16 → value p z < 2 ^ 16
unfolding value
value-lt [] z h small = omega arith
value-lt (c ∷ p) z h small = xor_lt 16 c (mul z (value p z)) h.0 (product-lt z (value p z) small (value-lt p z h.1 small))

pub plus_elements : (p q : List ℕ) → AreElements p → AreElements q → AreElements (plus p q)
unfolding plus
plus_elements (a ∷ p) (b ∷ q) h k = (xor_lt 16 a b h.0 k.0, plus_elements p q h.1 k.1)
plus_elements p q h k = grind arith

pub times_elements : (k : ℕ) (p : List ℕ) → k < 2 ^ 16 → AreElements p → AreElements (times k p)
times_elements k p small h = all-map _ _ (mul k) (λ a low. product-lt k a small low) p h

pub with_roots_elements : (points : List ℕ) → AreElements points → AreElements (with_roots points)
unfolding with_roots
with_roots_elements [] h = (omega arith, tt)
with_roots_elements (c ∷ points) h = grind (arith, plus_elements, times_elements, with_roots_elements points h.1)

pub quotient_elements : (c : ℕ) (p : List ℕ) → c < 2 ^ 16 → AreElements p → AreElements (quotient c p)
unfolding quotient
quotient_elements c (a ∷ b ∷ p) small h = (value-lt (b ∷ p) c h.1 small, quotient_elements c (b ∷ p) small h.1)
quotient_elements c p small h = tt

-- the sum with a polynomial that has at most as many coefficients
pub length-plus : (p q : List ℕ) → length q ≡ suc (length p) → length (plus p q) ≡ suc (length p)
unfolding plus
length-plus (a ∷ p) (b ∷ q) e = ap suc (length-plus p q (omega (arith, e)))
length-plus p q e = grind arith

pub length-with_roots : (points : List ℕ) → length (with_roots points) ≡ suc (length points)
unfolding with_roots
length-with_roots [] = refl
length-with_roots (c ∷ points) = (grind (arith, length-plus, length-map)) ∙ ap suc (length-with_roots points)

pub length-quotient : (c : ℕ) (p : List ℕ) → length (quotient c p) ≡ length p - 1
unfolding quotient
length-quotient c (a ∷ b ∷ p) = let e = length-quotient c (b ∷ p) in omega (arith, e)
length-quotient c p = omega arith

-- ---- values

pub value_plus : (p q : List ℕ) (z : ℕ) → value (plus p q) z ≡ bit_xor (value p z) (value q z)
unfolding value plus
value_plus [] q z = sym (xor_zero_l (value q z))
value_plus (a ∷ p) [] z = sym (xor_zero_r (value (a ∷ p) z))
value_plus (a ∷ p) (b ∷ q) z =
    ap (bit_xor (bit_xor a b)) (ap (mul z) (value_plus p q z) ∙ (product_linear_right z).on_xor (value p z) (value q z))
    ∙ xor_middle a b (mul z (value p z)) (mul z (value q z))

pub value_times : (k : ℕ) (p : List ℕ) (z : ℕ) → k < 2 ^ 16 → AreElements p → z < 2 ^ 16 → value (times k p) z ≡ mul k (value p z)
unfolding value
value_times k [] z small h hz = sym (product-zero k)
value_times k (a ∷ p) z small h hz =
    let v = value-lt p z h.1 hz in
    ap (bit_xor (mul k a)) (ap (mul z) (value_times k p z small h.1 hz)
    ∙ sym (product_assoc z k (value p z) hz small v) ∙ ap (λ x. mul x (value p z)) (product_comm z k hz small) ∙ product_assoc k z (value p z) small hz v)
    ∙ sym ((product_linear_right k).on_xor a (mul z (value p z)))

pub value_times_root : (c : ℕ) (p : List ℕ) (z : ℕ) → c < 2 ^ 16 → AreElements p → z < 2 ^ 16 → value (times_root c p) z ≡ mul (bit_xor z c) (value p z)
value_times_root c p z small h hz = unfold value in
    grind (arith, (value_plus (times c p) (0 ∷ p) z), (value_times c p z small h hz), (xor_zero_l (mul z (value p z))), (xor_comm (mul c (value p z)) (mul z (value p z))), ((product_linear_left (value p z)).on_xor z c))

-- ---- division

nothing_more : (p : List ℕ) → plus p [] ≡ p
unfolding plus
nothing_more [] = refl
nothing_more (a ∷ p) = refl

-- the dividend is the quotient times z - c, and the remainder
pub divided : (c a : ℕ) (p : List ℕ) → a ∷ p ≡ plus (times_root c (quotient c (a ∷ p))) (value (a ∷ p) c ∷ [])
unfolding value plus quotient
divided c a [] = ap (λ x. x ∷ []) (sym (xor_zero_l _ ∙ ap (bit_xor a) (product-zero c) ∙ xor_zero_r a))
divided c a (b ∷ p) =
    let v = value (b ∷ p) c in
    let q = quotient c (b ∷ p) in
    ap₂ (λ x xs. x ∷ xs)
    (sym (ap (λ x. bit_xor x (bit_xor a (mul c v))) (xor_zero_r (mul c v)) ∙ xor_comm (mul c v) (bit_xor a (mul c v)) ∙ xor_assoc a (mul c v) (mul c v) ∙ ap (bit_xor a) (xor_self (mul c v)) ∙ xor_zero_r a))
    (divided c b p ∙ behind v (times c q) q)
  where
    -- the remainder goes to the first coefficient
    behind : (v : ℕ) (m q : List ℕ) → plus (plus m (0 ∷ q)) (v ∷ []) ≡ plus (plus m (v ∷ q)) []
    behind v [] q = ap (λ xs. v ∷ xs) (nothing_more q)
    behind v (n ∷ m) q = ap₂ (λ x xs. x ∷ xs) (ap (λ x. bit_xor x v) (xor_zero_r n)) (nothing_more (plus m q)) ∙ sym (nothing_more (bit_xor n v ∷ plus m q))

pub value_divided : (c z : ℕ) (p : List ℕ) → c < 2 ^ 16 → z < 2 ^ 16 → AreElements p → value p z ≡ bit_xor (mul (bit_xor z c) (value (quotient c p) z)) (value p c)
unfolding value quotient
value_divided c z [] small hz h = sym (xor_zero_r _ ∙ product-zero (bit_xor z c))
value_divided c z (a ∷ p) small hz h =
    let r = value (a ∷ p) c in
    grind (arith, (divided c a p), (value_plus (times_root c (quotient c (a ∷ p))) (r ∷ []) z), (value_times_root c (quotient c (a ∷ p)) z small (quotient_elements c (a ∷ p) small h) hz), (product-zero z), (xor_zero_r r))

-- ---- roots

pub with_roots_zero : (points : List ℕ) → AreElements points → AllByRecursion (λ z. value (with_roots points) z ≡ 0) points
unfolding with_roots
with_roots_zero [] h = tt
with_roots_zero (c ∷ points) h = grind (arith, with_roots_elements, value_times_root, xor_self, zero-product, all-both, product-zero, with_roots_zero points h.1)

-- a nonzero factor can be cancelled
no_root : (c z v : ℕ) → c < 2 ^ 16 → z < 2 ^ 16 → v < 2 ^ 16 → z ≢ c → mul (bit_xor z c) v ≡ 0 → v ≡ 0
no_root c z v hc hz hv apart e =
    let positive : (n : ℕ) → n ≢ 0 → 0 < n = λ n k. omega arith in
    no_zero_divisor (bit_xor z c) v (positive (bit_xor z c) (λ same. apart (xor_same z c same))) (xor_lt 16 z c hz hc) hv e

pub with_roots_nonzero : (points : List ℕ) (z : ℕ) → AreElements points → z < 2 ^ 16 → (Contains points z → ⊥) → value (with_roots points) z ≢ 0
unfolding with_roots value
with_roots_nonzero [] z h small other e = let one : 1 ≡ 0 = sym (ap (bit_xor 1) (product-zero z)) ∙ e in omega (arith, one)
with_roots_nonzero (c ∷ points) z h small other e =
    let p = with_roots points in
    let is = with_roots_elements points h.1 in
    with_roots_nonzero points z h.1 small (λ k. other (contained_later c points z k))
    (no_root c z (value p z) h.0 small (value-lt p z is small) (λ same. other (subst (λ x. Contains (c ∷ points) x) (sym same) (contained_first c points)))
    (sym (value_times_root c p z h.0 is small) ∙ e))

-- ---- polynomials with as many roots as coefficients

abbrev AreZero : List ℕ → Type 0
AreZero p = AllByRecursion (λ x. x ≡ 0) p

plus_zero : (p q : List ℕ) → AreZero p → AreZero q → AreZero (plus p q)
unfolding plus
plus_zero (a ∷ p) (b ∷ q) h k = (ap₂ bit_xor h.0 k.0, plus_zero p q h.1 k.1)
plus_zero p q h k = grind arith

times_zero : (k : ℕ) (p : List ℕ) → AreZero p → AreZero (times k p)
times_zero k p h = all-map _ _ (mul k) (λ a zero. ap (mul k) zero ∙ product-zero k) p h

-- a polynomial is zero if its quotient and its remainder are
zero_by_quotient : (c : ℕ) (p : List ℕ) → value p c ≡ 0 → AreZero (quotient c p) → AreZero p
zero_by_quotient c [] e h = tt
zero_by_quotient c (a ∷ p) e h =
    let q = quotient c (a ∷ p) in
    subst AreZero (sym (divided c a p)) (plus_zero (times_root c q) (value (a ∷ p) c ∷ []) (plus_zero (times c q) (0 ∷ q) (times_zero c q h) (refl, h)) (e, tt))

-- each later point differs from the first
pub apart : (c : ℕ) (points : List ℕ) → ArePoints (c ∷ points) → AllByRecursion (λ z. z ≢ c) points
apart c points are = unfold IsDistinct in all_weaker (λ z. nat_eq c z ≡ false) (λ z. z ≢ c) (λ z other same. eqb-false c z other (sym same)) points are.distinct.0

pub other_points : (c : ℕ) (points : List ℕ) → ArePoints (c ∷ points) → ArePoints points
other_points c points are = unfold IsDistinct in record { elements = are.elements.1; distinct = are.distinct.1 }

-- the factor theorem, repeated: with as many distinct roots as coefficients, each coefficient is 0
pub only_zero : (points p : List ℕ) → ArePoints points → IsVector (length points) p → AllByRecursion (λ z. value p z ≡ 0) points → AreZero p
only_zero [] [] are is h = tt
only_zero [] (a ∷ p) are is h = absurd (let e : suc (length p) ≡ 0 = is.0 in omega (arith, e))
only_zero (c ∷ points) [] are is h = absurd (let e : 0 ≡ suc (length points) = is.0 in omega (arith, e))
only_zero (c ∷ points) (a ∷ p) are is h =
    let q = quotient c (a ∷ p) in
    let q_are = quotient_elements c (a ∷ p) are.elements.0 is.1 in
    let at_others = all-both (λ z. z < 2 ^ 16) (λ z. (z ≢ c) × (value (a ∷ p) z ≡ 0)) (λ z. value q z ≡ 0)
    (λ z small k. no_root c z (value q z) are.elements.0 small (value-lt q z q_are small) k.0
    (sym (xor_zero_r _) ∙ ap (bit_xor (mul (bit_xor z c) (value q z))) (sym h.0) ∙ sym (value_divided c z (a ∷ p) are.elements.0 small is.1) ∙ k.1))
    points are.elements.1 (all-both (λ z. z ≢ c) (λ z. value (a ∷ p) z ≡ 0) (λ z. (z ≢ c) × (value (a ∷ p) z ≡ 0)) (λ z k l. (k, l)) points (apart c points are) h.1) in
    let none = only_zero points q (other_points c points are) (let e : suc (length p) ≡ suc (length points) = is.0 in omega (arith, length-quotient c (a ∷ p), e), q_are) at_others in
    zero_by_quotient c (a ∷ p) h.0 none

-- ---- interpolation

same_at : (p q points : List ℕ) → AllByRecursion (λ z. value q z ≡ 0) points → map (value (plus p q)) points ≡ map (value p) points
same_at p q [] h = refl
same_at p q (z ∷ points) h = grind (arith, value_plus, xor_zero_r, same_at p q points h.1)

-- some multiple of a nonzero element, added to a, gives y
reached : (a y w : ℕ) → a < 2 ^ 16 → y < 2 ^ 16 → w < 2 ^ 16 → w ≢ 0 → (k : ℕ) × (k < 2 ^ 16) × (bit_xor a (mul k w) ≡ y)
reached a y w ha hy hw other =
    let inverse = has_inverse w (omega (arith, other)) hw in
    let b = inverse.0 in
    let d = bit_xor y a in
    let hd : d < 2 ^ 16 = xor_lt 16 y a hy ha in (
      mul d b,
      product-lt d b hd inverse.1.0,
      grind (arith, (product_assoc d b w hd inverse.1.0 hw), (product_comm b w inverse.1.0 hw), inverse.1.1, (product-one d hd), (xor_comm a d), (xor_off y a)),
    )

-- the interpolating polynomial (Lagrange): it has as many coefficients as there are points, and these values at them
pub record Interpolates (points values p : List ℕ) : Type 0 where
  pub vector : IsVector (length points) p
  pub at_points : map (value p) points ≡ values

-- a multiple of the polynomial with the points as roots is added, so that the value at one more point is y
pub some_polynomial : (points values : List ℕ) → ArePoints points → IsVector (length points) values → (p : List ℕ) × Interpolates points values p
some_polynomial [] [] are is = ([], record { vector = (refl, tt); at_points = refl })
some_polynomial [] (y ∷ values) are is = absurd (let e : suc (length values) ≡ 0 = is.0 in omega (arith, e))
some_polynomial (c ∷ points) [] are is = absurd (let e : 0 ≡ suc (length points) = is.0 in omega (arith, e))
some_polynomial (c ∷ points) (y ∷ values) are is =
    let more : (p : List ℕ) → Interpolates points values p → (q : List ℕ) × Interpolates (c ∷ points) (y ∷ values) q = (λ p by.
    let w = with_roots points in
    let w_are = with_roots_elements points are.elements.1 in
    let c_small : c < 2 ^ 16 = are.elements.0 in
    let k = reached (value p c) y (value w c) (value-lt p c by.vector.1 c_small) is.1.0 (value-lt w c w_are c_small)
    (with_roots_nonzero points c are.elements.1 c_small (λ among. of_contained (λ z. z ≢ c) points c (apart c points are) among refl)) in
    let added = times k.0 w in
    let long : length added ≡ suc (length p) = length-map w (mul k.0) ∙ length-with_roots points ∙ ap suc (sym by.vector.0) in
    let none = all-both (λ z. z < 2 ^ 16) (λ z. value w z ≡ 0) (λ z. value added z ≡ 0)
    (λ z small e. value_times k.0 w z k.1 w_are small ∙ ap (mul k.0) e ∙ product-zero k.0) points are.elements.1 (with_roots_zero points are.elements.1) in (
      plus p added,
      record {
        vector = (length-plus p added long ∙ ap suc by.vector.0, plus_elements p added by.vector.1 (times_elements k.0 w k.1 w_are));
        at_points = ap₂ (λ x xs. x ∷ xs)
            (value_plus p added c ∙ ap (bit_xor (value p c)) (value_times k.0 w c k.1 w_are c_small) ∙ k.2)
            (same_at p added points none ∙ by.at_points);
      },
    )) in
    let before = some_polynomial points values (other_points c points are) (let e : suc (length values) ≡ suc (length points) = is.0 in omega (arith, e), is.1.1) in
    more before.0 before.1

-- ---- monic, and without one of the roots

-- the last coefficient of a sum is that of the longer one
plus_last : (p q : List ℕ) → length q ≡ suc (length p) → get_or (plus p q) (length p) 0 ≡ get_or q (length p) 0
unfolding plus
plus_last (a ∷ p) (b ∷ q) e = plus_last p q (omega (arith, e))
plus_last p q e = grind arith

-- the last coefficient is 1
pub with_roots_monic : (points : List ℕ) → AreElements points → get_or (with_roots points) (length points) 0 ≡ 1
unfolding with_roots
with_roots_monic [] h = refl
with_roots_monic (c ∷ points) h =
    let w = with_roots points in
    grind (arith, (length-map w (mul c)), (length-with_roots points), (plus_last (times c w) (0 ∷ w) (ap suc (sym (length-map w (mul c))))), (with_roots_monic points h.1))

-- the quotient on division by one of the roots is 0 at the other ones
pub quotient_others : (points : List ℕ) (c z : ℕ) → AreElements points → Contains points c → Contains points z → z ≢ c → value (quotient c (with_roots points)) z ≡ 0
quotient_others points c z h first second other =
    let w = with_roots points in
    let w_are = with_roots_elements points h in
    let hc = of_contained (λ x. x < 2 ^ 16) points c h first in
    let hz = of_contained (λ x. x < 2 ^ 16) points z h second in
    let q = quotient c w in
    no_root c z (value q z) hc hz (value-lt q z (quotient_elements c w hc w_are) hz) other
    (sym (xor_zero_r _) ∙ ap (bit_xor (mul (bit_xor z c) (value q z))) (sym (of_contained (λ x. value w x ≡ 0) points c (with_roots_zero points h) first))
    ∙ sym (value_divided c z w hc hz w_are) ∙ of_contained (λ x. value w x ≡ 0) points z (with_roots_zero points h) second)

-- the quotient is nonzero at this root
pub quotient_itself : (points : List ℕ) (c : ℕ) → ArePoints points → Contains points c → value (quotient c (with_roots points)) c ≢ 0
quotient_itself points c are first e =
    let h = are.elements in
    let w = with_roots points in
    let q = quotient c w in
    let at_all = all_from (λ z. value q z ≡ 0) 0 points (λ i low. by_either (cases_eq (get_or points i 0) c)
    (λ same. ap (value q) same ∙ e)
    (λ other. quotient_others points c (get_or points i 0) h first (Contains-get_or points i 0 low) other)) in
    let long = length-quotient c w in
    let long_w = length-with_roots points in
    let none = only_zero points q are (omega (arith, long, long_w), quotient_elements c w (of_contained (λ x. x < 2 ^ 16) points c h first) (with_roots_elements points h)) at_all in
    let all_none = zero_by_quotient c w (of_contained (λ x. value w x ≡ 0) points c (with_roots_zero points h) first) none in
    omega (arith, (sym (all_at (λ x. x ≡ 0) 0 refl w all_none (length points)) ∙ with_roots_monic points h))
