-- Words in bytes and in lanes: their sums, their vectors, and their products nibble by nibble.
use Rattle.par2_gf16.proofs.Common.{ℕ, ◌+◌, ◌*◌, ◌/◌, ◌%◌, ◌^◌, ◌<◌, ◌≡◌, sym, ap, ap₂, ◌∙◌, subst, arith, List, length, get_or, xor_block, word, AddsEach, zero, suc, refl, [], ◌∷◌, map, replicate, Bool, true, false, cond, eqb, bit_and, zero-mul, one-mul, pow_pos, pow-suc, mul_comm, add-one, mod-lt, shr-shr, xor_comm, and_pow, eqb-true, eqb-false, map-id, zip2_of_maps, map-map, xor_shifted, mul, pow, LanesSoFar, bit_cases, tested, tested_at, product_linear_right, product-lt, product_comm, product_assoc, product-one, product-zero, power-lt, by_either, ◌-◌, ◌≤◌, ◌++◌, flat_map, ◌&&◌, inl, inr, w8, Fits, cases_lt, and_parts, and_mask, get_or-map, length-map, get_or_append_left, get_or-append_right, ext_get_or, Each1-get_or, Each1-from_get_or, below_from_Fits, length-chunk, get_or_wider, chunk-fits, zip2_splat, get_or-chunk, get_or-put_chunk_below, get_or-put_chunk_at, get_or-put_chunk_above, length-put_chunk, get_or-zip2, length-zip2, get_or-swz_l_below, length-swz_l, swz_l, SwzOk, SwzOk-from_below, range_with_len, bit_xor, IsTable, IsInterleaving, AddsLanes, in_lane, lane_of, word_in, word_of, take, drop, xor_zero_l, xor_zero_r, AddsTo, length-append, xor_shl, mod-mul, mod-eq_of_lt, bit_at, get_or-take, get_or-drop, get_or_past, length-take-le, get_or-map-range_with_len, length-map-range_with_len, ltb-true, ltb, zip2, sel_l, top, Each1, number_l, digits_l, chunk, put_chunk, pick_l, WordVector, word_past}

pub word_xor : (r a p : ℕ) → r < 256 → a < 256 → p < 65536 → bit_xor r (p % 256) + 256 * bit_xor a (p / 256) ≡ bit_xor (r + 256 * a) p
word_xor r a p hr ha hp =
    let e : r + 256 * a ≡ a * 2 ^ 8 + r = omega arith in
    let f : p ≡ p / 256 * 2 ^ 8 + p % 256 = omega arith in
    let g = xor_block 8 a (p / 256) r (p % 256) hr (omega arith) in
    (let h : bit_xor r (p % 256) + 256 * bit_xor a (p / 256) ≡ bit_xor a (p / 256) * 2 ^ 8 + bit_xor r (p % 256) = omega arith in h)
    ∙ sym g ∙ sym (ap₂ bit_xor e f)

-- Vectors, lane by lane.

pub map_same : (f g : ℕ → ℕ) (P : ℕ → Type 0) → ((x : ℕ) → P x → f x ≡ g x) → (xs : List ℕ) → Each1 P xs → map f xs ≡ map g xs
map_same f g P same [] h = refl
map_same f g P same (x ∷ xs) h = ap₂ (λ y ys. y ∷ ys) (same x h.0) (map_same f g P same xs h.1)

pub map_all : (f g : ℕ → ℕ) → ((x : ℕ) → f x ≡ g x) → (xs : List ℕ) → map f xs ≡ map g xs
map_all f g same [] = refl
map_all f g same (x ∷ xs) = ap₂ (λ y ys. y ∷ ys) (same x) (map_all f g same xs)

abbrev pub odd_mask : ℕ → ℕ → ℕ
odd_mask a b = cond (eqb a b) 65535 0

one_lane : (v k : ℕ) → cond (top 15 (odd_mask (bit_and v 1) 1)) k 0 ≡ v % 2 * k
one_lane v k = go (eqb (bit_and v 1) 1) refl
  where
    go : (t : Bool) → eqb (bit_and v 1) 1 ≡ t → cond (top 15 (cond t 65535 0)) k 0 ≡ v % 2 * k
    go true e = sym (ap (λ b. b * k) (let h : v % 2 ≡ 1 = omega (arith, and_pow v 0, eqb-true (bit_and v 1) 1 e) in h) ∙ one-mul k)
    go false e = sym (ap (λ b. b * k) (let h : v % 2 ≡ 0 = omega (arith, and_pow v 0, eqb-false (bit_and v 1) 1 e) in h) ∙ zero-mul k)

pub select_lanes : (n k : ℕ) (ss vs : List ℕ) → length ss ≡ n → length vs ≡ n
    → zip2 bit_xor ss (sel_l (map (top 15) (zip2 odd_mask (zip2 bit_and vs (replicate n 1)) (replicate n 1))) (replicate n k) (replicate n 0))
    ≡ zip2 (λ s x. bit_xor s (x % 2 * k)) ss vs
select_lanes zero k [] vs a b = refl
select_lanes (suc n) k (s ∷ ss) (v ∷ vs) a b =
    ap₂ (λ y ys. y ∷ ys) (ap (bit_xor s) (one_lane v k)) (select_lanes n k ss vs (omega arith) (omega arith))
select_lanes n k ss vs a b = absurd (omega arith)

-- ---- the steps

test_power : tested (λ i. eqb (pow 2 i) (2 ^ i)) 16 ≡ true
unfolding pow
test_power = refl

power_two : (i : ℕ) → i < 16 → pow 2 i ≡ 2 ^ i
power_two i h = eqb-true (pow 2 i) (2 ^ i) (tested_at (λ j. eqb (pow 2 j) (2 ^ j)) 16 i test_power h)

one_more : (c x j : ℕ) → j < 16 → bit_xor (mul c (x % 2 ^ j)) (x / 2 ^ j % 2 * mul c (pow 2 j)) ≡ mul c (x % 2 ^ (j + 1))
one_more c x j h =
    let e : 2 ^ (j + 1) ≡ 2 * 2 ^ j = ap (λ n. 2 ^ n) (add-one j) ∙ pow-suc 2 j ∙ mul_comm (2 ^ j) 2 in
    let split : x % 2 ^ (j + 1) ≡ bit_xor (bit_at x j * 2 ^ j) (x % 2 ^ j) =
    ap (λ n. x % n) e ∙ mod-mul x (omega arith) (pow_pos j) ∙ sym (xor_shifted (bit_at x j) j (x % 2 ^ j) (mod-lt x (pow_pos j))) in
    let scaled : mul c (bit_at x j * 2 ^ j) ≡ bit_at x j * mul c (pow 2 j) = by_either (bit_cases x j)
    (λ z. rw z (ap (mul c) (zero-mul (2 ^ j)) ∙ product-zero c ∙ sym (zero-mul (mul c (pow 2 j)))))
    (λ o. rw o (ap (mul c) (one-mul (2 ^ j) ∙ sym (power_two j h)) ∙ sym (one-mul (mul c (pow 2 j))))) in
    ap (bit_xor (mul c (x % 2 ^ j))) (sym scaled)
    ∙ xor_comm (mul c (x % 2 ^ j)) (mul c (bit_at x j * 2 ^ j))
    ∙ sym (ap (mul c) split ∙ (product_linear_right c).on_xor (bit_at x j * 2 ^ j) (x % 2 ^ j))

pub lanes_start : (c : ℕ) (v sum : List ℕ) → c < 65536 → sum ≡ map (λ _. 0) v → LanesSoFar c v sum v c 0
unfolding pow
lanes_start c v sum hc e = record {
  added = e ∙ map_all (λ _. 0) (λ x. mul c (x % 2 ^ 0)) (λ x. sym (ap (mul c) (let z : x % 1 ≡ 0 = omega arith in z) ∙ product-zero c)) v;
  left = sym (map_all (λ x. x / 2 ^ 0) (λ x. x) (λ x. let o : x / 1 ≡ x = omega arith in o) v ∙ map-id v);
  copy = sym (product-one c hc);
}

pub lanes_step : (c : ℕ) (v sum rest sum' rest' : List ℕ) (k k' j : ℕ) → c < 65536 → j < 16 → LanesSoFar c v sum rest k j
    → sum' ≡ zip2 (λ s x. bit_xor s (x % 2 * k)) sum rest → rest' ≡ map (λ x. x / 2) rest → k' ≡ mul 2 k → LanesSoFar c v sum' rest' k' (j + 1)
unfolding pow
lanes_step c v sum rest sum' rest' k k' j hc h so_far es er ek =
    let pj : pow 2 j < 65536 = power-lt 2 j (omega arith) in
    record {
      added = es
          ∙ zip2_of_maps (λ s x. bit_xor s (x % 2 * k)) (λ x. mul c (x % 2 ^ j)) (λ x. x / 2 ^ j) v so_far.added so_far.left
          ∙ map_all _ (λ x. mul c (x % 2 ^ (j + 1))) (λ x. ap (λ w. bit_xor (mul c (x % 2 ^ j)) (x / 2 ^ j % 2 * w)) so_far.copy ∙ one_more c x j h) v;
      left = er ∙ ap (map (λ x. x / 2)) so_far.left ∙ map-map (λ x. x / 2) (λ x. x / 2 ^ j) v
          ∙ map_all _ (λ x. x / 2 ^ (j + 1)) (λ x. shr-shr x j 1) v;
      copy = ek ∙ ap (mul 2) so_far.copy
          ∙ product_comm 2 (mul c (pow 2 j)) (omega arith) (product-lt c (pow 2 j) hc pj)
          ∙ product_assoc c (pow 2 j) 2 hc pj (omega arith)
          ∙ ap (mul c) (product_comm (pow 2 j) 2 pj (omega arith) ∙ sym (ap (pow 2) (add-one j)));
    }

pub lanes_done : (c n : ℕ) (v sum rest : List ℕ) (k j : ℕ) → j ≡ n → Each1 (λ x. x < 2 ^ n) v → LanesSoFar c v sum rest k j → sum ≡ map (mul c) v
lanes_done c n v sum rest k j e fits so_far =
    so_far.added ∙ ap (λ m. map (λ x. mul c (x % 2 ^ m)) v) e
    ∙ map_same (λ x. mul c (x % 2 ^ n)) (mul c) (λ x. x < 2 ^ n) (λ x small. ap (mul c) (mod-eq_of_lt small)) v fits

-- A block of words, in bytes and in lanes.

-- ---- words and their bytes

length-digits_l : (p n x : ℕ) → length (digits_l p n x) ≡ n
length-digits_l p zero x = refl
length-digits_l p (suc n) x = ap suc (length-digits_l p n (x / p))

two_digits : (ys : List ℕ) → length ys ≡ 2 → number_l 256 ys ≡ get_or ys 0 0 + 256 * get_or ys 1 0
two_digits (x ∷ y ∷ []) e = omega arith
two_digits ys e = absurd (omega arith)

-- a word of a block, the lower byte first
block_word : (n : ℕ) (block : List ℕ) (j : ℕ) → length block ≡ 2 * n → Each1 (λ x. x < 256) block → j < n
    → get_or (digits_l 65536 n (number_l 256 block)) j 0 ≡ get_or block (2 * j) 0 + 256 * get_or block (2 * j + 1) 0
block_word n block j long small h =
    let pair : length (chunk (2 * j) 2 block) ≡ 2 = length-chunk (2 * j) 2 block (omega arith) in
    get_or_wider 256 2 65536 n block j refl small h
    ∙ two_digits (chunk (2 * j) 2 block) pair
    ∙ ap₂ (λ x y. x + 256 * y)
    (get_or-chunk (2 * j) 2 block 0 0 (omega arith) ∙ ap (λ i. get_or block i 0) (let e : 2 * j + 0 ≡ 2 * j = omega arith in e))
    (get_or-chunk (2 * j) 2 block 1 0 (omega arith))

-- ---- the lanes of words

abbrev pub lanes : List ℕ
lanes = map lane_of (range_with_len 0 32)

test_lanes : tested (λ j. eqb (lane_of (lane_of j)) j && ltb (lane_of j) 32) 32 ≡ true
test_lanes = refl

pub lane : (j : ℕ) → j < 32 → (lane_of (lane_of j) ≡ j) × (lane_of j < 32)
lane j h =
    let parts = and_parts (eqb (lane_of (lane_of j)) j) (ltb (lane_of j) 32) (tested_at (λ i. eqb (lane_of (lane_of i)) i && ltb (lane_of i) 32) 32 j test_lanes h) in
    (eqb-true _ _ parts.0, ltb-true _ _ parts.1)

lane_within : (j : ℕ) (v : List ℕ) → j < 32 → length v ≡ 32 → lane_of j < length v
lane_within j v h many = subst (λ k. lane_of j < k) (sym many) (lane j h).1

abbrev pub exchange : List ℕ → List ℕ
exchange v = map (λ j. get_or v (lane_of j) 0) (range_with_len 0 32)

exchanged_at : (v : List ℕ) (j : ℕ) → j < 32 → get_or (exchange v) j 0 ≡ get_or v (lane_of j) 0
exchanged_at v j h = get_or-map-range_with_len (λ k. get_or v (lane_of k) 0) 0 32 j j 0 h (omega arith)

exchanged_back : (v : List ℕ) (j : ℕ) → j < 32 → get_or (exchange v) (lane_of j) 0 ≡ get_or v j 0
exchanged_back v j h = let l = lane j h in exchanged_at v (lane_of j) l.1 ∙ ap (λ k. get_or v k 0) l.0

length-exchange : (v : List ℕ) → length (exchange v) ≡ 32
length-exchange v = length-map-range_with_len (λ j. get_or v (lane_of j) 0) 0 32

pub words_split : (bytes : List ℕ) (at : ℕ) (low high : List ℕ) → at + 64 ≤ length bytes → ((i : ℕ) → Fits w8 (get_or bytes i 0))
    → low ≡ map (λ x. x % 256) (digits_l 65536 32 (number_l 256 (chunk at 64 bytes)))
    → high ≡ map (λ x. x / 256) (digits_l 65536 32 (number_l 256 (chunk at 64 bytes)))
    → IsInterleaving (exchange low) (exchange high) (chunk at 64 bytes)
words_split bytes at low high room fits el eh =
    let block = chunk at 64 bytes in
    let long : length block ≡ 64 = length-chunk at 64 bytes room in
    let small : Each1 (λ x. x < 256) block = below_from_Fits w8 block (chunk-fits w8 at 64 bytes fits) in
    let words = digits_l 65536 32 (number_l 256 block) in
    let count : length words ≡ 32 = length-digits_l 65536 32 (number_l 256 block) in
    record {
      low_count = length-exchange low;
      high_count = length-exchange high;
      lows = λ j h.
          let byte : get_or block (2 * j) 0 < 256 = Each1-get_or (λ x. x < 256) block (2 * j) 0 (omega arith) small in
          sym (exchanged_back low j h ∙ ap (λ xs. get_or xs j 0) el ∙ get_or-map (λ x. x % 256) words j 0 0 (omega arith)
          ∙ ap (λ x. x % 256) (block_word 32 block j long small h) ∙ omega arith);
      highs = λ j h.
          let byte : get_or block (2 * j) 0 < 256 = Each1-get_or (λ x. x < 256) block (2 * j) 0 (omega arith) small in
          sym (exchanged_back high j h ∙ ap (λ xs. get_or xs j 0) eh ∙ get_or-map (λ x. x / 256) words j 0 0 (omega arith)
          ∙ ap (λ x. x / 256) (block_word 32 block j long small h) ∙ omega arith);
    }

abbrev pub woven : List ℕ
woven = flat_map (λ j. lane_of j ∷ (32 + lane_of j) ∷ []) (range_with_len 0 32)

test_woven : tested (λ j. eqb (get_or woven (2 * j) 0) (lane_of j) && eqb (get_or woven (2 * j + 1) 0) (32 + lane_of j)) 32 ≡ true
test_woven = refl

woven_at : (j : ℕ) → j < 32 → (get_or woven (2 * j) 0 ≡ lane_of j) × (get_or woven (2 * j + 1) 0 ≡ 32 + lane_of j)
woven_at j h =
    let parts = and_parts (eqb (get_or woven (2 * j) 0) (lane_of j)) (eqb (get_or woven (2 * j + 1) 0) (32 + lane_of j))
    (tested_at (λ i. eqb (get_or woven (2 * i) 0) (lane_of i) && eqb (get_or woven (2 * i + 1) 0) (32 + lane_of i)) 32 j test_woven h) in
    (eqb-true _ _ parts.0, eqb-true _ _ parts.1)

pub interleaving : (low high : List ℕ) → length low ≡ 32 → length high ≡ 32 → IsInterleaving low high (pick_l 0 (low ++ high) woven)
interleaving low high ll lh = record {
  low_count = ll;
  high_count = lh;
  lows = λ j h. get_or-map (λ k. get_or (low ++ high) k 0) woven (2 * j) 0 0 (omega arith)
      ∙ ap (λ k. get_or (low ++ high) k 0) (woven_at j h).0
      ∙ get_or_append_left low high 0 (lane_of j) (subst (λ n. lane_of j < n) (sym ll) (lane j h).1);
  highs = λ j h. get_or-map (λ k. get_or (low ++ high) k 0) woven (2 * j + 1) 0 0 (omega arith)
      ∙ ap (λ k. get_or (low ++ high) k 0) (woven_at j h).1
      ∙ get_or-append_right low high 32 (32 + lane_of j) 0 ll (omega arith) ∙ ap (λ k. get_or high k 0) (let e : 32 + lane_of j - 32 ≡ lane_of j = omega arith in e);
}

-- ---- look-ups

abbrev pub down : ℕ → ℕ → ℕ
down a b = a / 2 ^ b

pub masked : (v : List ℕ) → length v ≡ 32 → zip2 bit_and v (replicate 32 15) ≡ map (λ x. x % 16) v
masked v long = zip2_splat bit_and v 32 15 long ∙ map_all (λ x. bit_and x 15) (λ x. x % 16) (λ x. and_mask x 4) v

pub shifted : (v : List ℕ) → length v ≡ 32 → zip2 down v (replicate 32 4) ≡ map (λ x. x / 16) v
shifted v long = zip2_splat down v 32 4 long

pub small_places : (g : ℕ → ℕ) → ((x : ℕ) → x < 256 → g x < 16) → (v js : List ℕ) → Each1 (Fits w8) v → js ≡ map g v → (i : ℕ) → get_or js i 0 < 16
small_places g small v js fits e i = subst (λ xs. get_or xs i 0 < 16) (sym e) (go v i fits)
  where
    go : (xs : List ℕ) (k : ℕ) → Each1 (Fits w8) xs → get_or (map g xs) k 0 < 16
    go [] k h = omega arith
    go (x ∷ xs) zero h = small x h.0.fits
    go (x ∷ xs) (suc k) h = go xs k h.1

pub places_ok : (js : List ℕ) → length js ≡ 32 → ((i : ℕ) → get_or js i 0 < 16) → SwzOk w8 16 32 0 js
places_ok js long small = SwzOk-from_below w8 16 2 32 0 js refl (let k : 0 + length js ≤ 32 = omega (arith, long) in k) (Each1-from_get_or (λ j. j < 16) js 0 (λ i h. small i))

pub looked_up : (f : ℕ → ℕ) (t js : List ℕ) → IsTable f t → length js ≡ 32 → ((i : ℕ) → get_or js i 0 < 16) → swz_l w8 16 t 0 js ≡ map f js
looked_up f t js table long small =
    ext_get_or 0 _ _ (length-swz_l w8 16 t 0 js ∙ sym (length-map js f)) (λ i h.
    let lt : i < length js = omega (arith, length-swz_l w8 16 t 0 js) in
    let below : get_or js i 0 < 16 = small i in
    get_or-swz_l_below w8 16 t 0 js i lt below
    ∙ table.each (16 * ((0 + i) / 16) + get_or js i 0) (omega (arith, long))
    ∙ ap f (let k : (16 * ((0 + i) / 16) + get_or js i 0) % 16 ≡ get_or js i 0 = omega arith in k)
    ∙ sym (get_or-map f js i 0 0 lt))

-- ---- sums in place

pub vector_added : (old v : List ℕ) (at : ℕ) → at + 32 ≤ length old → length v ≡ 32 → ((i : ℕ) → get_or old i 0 < 256)
    → AddsLanes old (put_chunk at old (zip2 bit_xor (chunk at 32 old) v)) at 32 v
vector_added old v at room long fit =
    let part = chunk at 32 old in
    let part_count : length part ≡ 32 = length-chunk at 32 old room in
    let sums = zip2 bit_xor part v in
    let count : length sums ≡ 32 = length-zip2 bit_xor part v (part_count ∙ sym long) ∙ part_count in
    record {
      count = long;
      others = record {
        same_length = length-put_chunk at old sums;
        below = λ k h. get_or-put_chunk_below at old sums k 0 h;
        above = λ k h. get_or-put_chunk_above at old sums k 0 (omega arith);
      };
      fit = λ j h. fit (at + j);
      each = λ j h. get_or-put_chunk_at at old sums j 0 (omega arith) (omega arith)
          ∙ get_or-zip2 bit_xor part v j 0 0 0 (omega arith) (omega arith)
          ∙ ap (λ x. bit_xor x (get_or v j 0)) (get_or-chunk at 32 old j 0 h);
    }

-- two vectors, one after the other
pub both_added : (old mid new first second : List ℕ) (at : ℕ) → AddsLanes old mid at 32 first → AddsLanes mid new (at + 32) 32 second → AddsLanes old new at 64 (first ++ second)
both_added old mid new first second at one two = record {
  count = length-append first second ∙ ap₂ (λ a b. a + b) one.count two.count;
  others = record {
    same_length = two.others.same_length ∙ one.others.same_length;
    below = λ k h. two.others.below k (omega arith) ∙ one.others.below k h;
    above = λ k h. two.others.above k (omega arith) ∙ one.others.above k (omega arith);
  };
  fit = λ k h. (go k h).1;
  each = λ k h. (go k h).0;
}
  where
    go : (k : ℕ) → k < 64 → (get_or new (at + k) 0 ≡ bit_xor (get_or old (at + k) 0) (get_or (first ++ second) k 0)) × (get_or old (at + k) 0 < 256)
    go k h = elim (cases_lt k 32) [
      | inl l ↦ (
        two.others.below (at + k) (omega arith) ∙ one.each k l ∙ ap (bit_xor (get_or old (at + k) 0)) (sym (get_or_append_left first second 0 k (omega (arith, one.count)))),
        one.fit k l,
      )
      | inr g ↦
          let place : at + 32 + (k - 32) ≡ at + k = omega arith in
          let same : get_or mid (at + k) 0 ≡ get_or old (at + k) 0 = one.others.above (at + k) (omega arith) in (
            ap (λ i. get_or new i 0) (sym place) ∙ two.each (k - 32) (omega arith)
                ∙ ap₂ bit_xor (ap (λ i. get_or mid i 0) place ∙ same) (sym (get_or-append_right first second 32 k 0 one.count g)),
            (let low : get_or mid (at + 32 + (k - 32)) 0 < 256 = two.fit (k - 32) (omega arith) in
                subst (λ x. x < 256) (ap (λ i. get_or mid i 0) place ∙ same) low),
          )
    ]

-- ---- the words of two vectors

two_bytes : (bytes : List ℕ) (n j : ℕ) → word (n + j) bytes ≡ get_or bytes (2 * n + 2 * j) 0 + 256 * get_or bytes (2 * n + (2 * j + 1)) 0
two_bytes bytes n j = grind arith

-- the sum of two words, byte by byte
xor_words : (a b l h : ℕ) → a < 256 → b < 256 → l < 256 → h < 256 → bit_xor a l + 256 * bit_xor b h ≡ bit_xor (a + 256 * b) (l + 256 * h)
xor_words a b l h ha hb hl hh =
    ap₂ (λ x y. bit_xor a x + 256 * bit_xor b y) (let e : l ≡ (l + 256 * h) % 256 = omega arith in e) (let e : h ≡ (l + 256 * h) / 256 = omega arith in e)
    ∙ word_xor a b (l + 256 * h) ha hb (omega arith)

pub block_added : (low high old new bytes : List ℕ) (n : ℕ) → ((i : ℕ) → get_or low i 0 < 256) → ((i : ℕ) → get_or high i 0 < 256) → IsInterleaving low high bytes → AddsLanes old new (2 * n) 64 bytes
    → AddsEach (λ i. in_lane low high (i - n)) old new n (n + 32)
block_added low high old new bytes n lows highs woven added = record {
  same_length = added.others.same_length;
  inside = λ i g l room. subst (λ k. word k new ≡ bit_xor (word k old) (in_lane low high (i - n))) (let e : n + (i - n) ≡ i = omega arith in e) (go (i - n) (omega arith));
  below = λ i h. ap₂ (λ x y. x + 256 * y) (added.others.below (2 * i) (omega arith)) (added.others.below (2 * i + 1) (omega arith));
  above = λ i h. ap₂ (λ x y. x + 256 * y) (added.others.above (2 * i) (omega arith)) (added.others.above (2 * i + 1) (omega arith));
}
  where
    go : (j : ℕ) → j < 32 → word (n + j) new ≡ bit_xor (word (n + j) old) (in_lane low high j)
    go j h =
        let a = get_or old (2 * n + 2 * j) 0 in
        let b = get_or old (2 * n + (2 * j + 1)) 0 in
        two_bytes new n j
        ∙ ap₂ (λ x y. x + 256 * y)
        (added.each (2 * j) (omega arith) ∙ ap (bit_xor a) (woven.lows j h))
        (added.each (2 * j + 1) (omega arith) ∙ ap (bit_xor b) (woven.highs j h))
        ∙ xor_words a b (get_or low (lane_of j) 0) (get_or high (lane_of j) 0) (added.fit (2 * j) (omega arith)) (added.fit (2 * j + 1) (omega arith)) (lows (lane_of j)) (highs (lane_of j))
        ∙ ap (λ x. bit_xor x (in_lane low high j)) (sym (two_bytes old n j))

-- the words of a block, from their lanes
pub lane_word : (low high bytes : List ℕ) → IsInterleaving low high (take 64 bytes) → (j : ℕ) → j < 32 → in_lane low high j ≡ word j bytes
lane_word low high bytes woven j h =
    ap₂ (λ x y. x + 256 * y) (sym (woven.lows j h) ∙ get_or-take 64 bytes (2 * j) 0 (omega arith)) (sym (woven.highs j h) ∙ get_or-take 64 bytes (2 * j + 1) 0 (omega arith))

-- a lane of what was computed lane by lane
at_lane : (g : ℕ → ℕ) (v places : List ℕ) (j : ℕ) → j < 32 → length v ≡ 32 → places ≡ map g v → get_or places (lane_of j) 0 ≡ g (get_or v (lane_of j) 0)
at_lane g v places j h long e = ap (λ xs. get_or xs (lane_of j) 0) e ∙ get_or-map g v (lane_of j) 0 0 (lane_within j v h long)

-- products whose bytes were looked up
pub product_in : (f : ℕ → ℕ) (places lows highs : List ℕ) → length places ≡ 32 → lows ≡ map (λ n. f n % 256) places → highs ≡ map (λ n. f n / 256) places
    → (j : ℕ) → j < 32 → in_lane lows highs j ≡ f (get_or places (lane_of j) 0)
product_in f places lows highs long el eh j h = grind (arith, at_lane)

-- sums in lanes
pub sum_in : (a b l h lows highs : List ℕ) → length a ≡ 32 → length b ≡ 32 → length l ≡ 32 → length h ≡ 32 → ((i : ℕ) → get_or a i 0 < 256) → ((i : ℕ) → get_or b i 0 < 256) → ((i : ℕ) → get_or l i 0 < 256) → ((i : ℕ) → get_or h i 0 < 256)
    → lows ≡ zip2 bit_xor a l → highs ≡ zip2 bit_xor b h → (j : ℕ) → j < 32 → in_lane lows highs j ≡ bit_xor (in_lane a b j) (in_lane l h j)
sum_in a b l h lows highs la lb ll lh fa fb fl fh el eh j k =
    ap₂ (λ x y. x + 256 * y)
    (ap (λ xs. get_or xs (lane_of j) 0) el ∙ get_or-zip2 bit_xor a l (lane_of j) 0 0 0 (lane_within j a k la) (lane_within j l k ll))
    (ap (λ xs. get_or xs (lane_of j) 0) eh ∙ get_or-zip2 bit_xor b h (lane_of j) 0 0 0 (lane_within j b k lb) (lane_within j h k lh))
    ∙ xor_words (get_or a (lane_of j) 0) (get_or b (lane_of j) 0) (get_or l (lane_of j) 0) (get_or h (lane_of j) 0) (fa (lane_of j)) (fb (lane_of j)) (fl (lane_of j)) (fh (lane_of j))

-- word e of vector n
pub in_vector : (vectors : List WordVector) (n e : ℕ) → e < 32 → word_in (get_or vectors n (record { low = []; high = [] })) e ≡ word_of vectors (32 * n + e)
in_vector vectors n e low = grind arith

-- past the vectors, products are zero
pub product_past : (c : ℕ) (vectors : List WordVector) (p : ℕ) → 32 * length vectors ≤ p → mul c (word_of vectors p) ≡ 0
product_past c vectors p past = ap (λ v. mul c (word_in v (p % 32))) (get_or_past vectors (p / 32) (record { low = []; high = [] }) (omega arith)) ∙ product-zero c

-- words of a part
pub word_drop : (bytes : List ℕ) (n j : ℕ) → word j (drop (2 * n) bytes) ≡ word (n + j) bytes
word_drop bytes n j = grind (arith, get_or-drop)

-- one more vector
pub next_vector : (bytes : List ℕ) (vectors : List WordVector) (one : WordVector) (k : ℕ) → length vectors ≡ k → ((p : ℕ) → p < 32 * k → word_of vectors p ≡ word p bytes)
    → ((j : ℕ) → j < 32 → word_in one j ≡ word (32 * k + j) bytes) → (p : ℕ) → p < 32 * (k + 1) → word_of (vectors ++ one ∷ []) p ≡ word p bytes
next_vector bytes vectors one k count so_far is p h = grind (arith, get_or_append_left, get_or-append_right)

pub all_vectors : (bytes : List ℕ) (vectors : List WordVector) (k : ℕ) → length bytes ≤ 64 * k → length vectors ≡ k → ((p : ℕ) → p < 32 * k → word_of vectors p ≡ word p bytes) → (p : ℕ) → word_of vectors p ≡ word p bytes
all_vectors bytes vectors k enough count so_far p = grind (arith, get_or_past, word_past)

-- Words that are added part by part, and the end of a source.

-- one part after another
pub adds_after : (other : ℕ → ℕ) (old mid new : List ℕ) (a b d : ℕ) → a ≤ b → b ≤ d → AddsEach other old mid a b → AddsEach other mid new b d → AddsEach other old new a d
adds_after other old mid new a b d ab bd first second = grind arith

-- one more vector
pub block_more : (other : ℕ → ℕ) (old mid new : List ℕ) (words : WordVector) (k : ℕ) → ((j : ℕ) → j < 32 → word_in words j ≡ other (32 * k + j)) → AddsEach other old mid 0 (32 * k)
    → AddsEach (λ i. word_in words (i - 32 * k)) mid new (32 * k) (32 * k + 32) → AddsEach other old new 0 (32 * (k + 1))
block_more other old mid new words k is before added = grind (arith, adds_after)

-- the words after the last vector get nothing
pub all_added : (other : ℕ → ℕ) (old new : List ℕ) (n : ℕ) → ((p : ℕ) → n ≤ p → 2 * p + 1 < length old → other p ≡ 0) → AddsEach other old new 0 n → AddsTo other old new
all_added other old new n none added = grind (arith, xor_zero_r)

-- the end of the bytes is replaced by sums
pub end_added : (other : ℕ → ℕ) (old end : List ℕ) (n : ℕ) → 2 * n ≤ length old → length old ≤ 2 * n + 64 → length end + 2 * n ≡ length old
    → ((j : ℕ) → 2 * (n + j) + 1 < length old → word j end ≡ bit_xor (word (n + j) old) (other (n + j))) → AddsEach other old (take (2 * n) old ++ end) n (n + 32)
end_added other old end n room few size is =
    let front = take (2 * n) old in
    let start : length front ≡ 2 * n = length-take-le (2 * n) old room in
    let whole : length (front ++ end) ≡ length old = omega (arith, length-append front end) in
    record {
      same_length = whole;
      inside = λ i low high fits.
          let here : n + (i - n) ≡ i = omega arith in
          ap₂ (λ x y. x + 256 * y)
          (get_or-append_right front end (2 * n) (2 * i) 0 start (omega arith) ∙ ap (λ k. get_or end k 0) (let e : 2 * i - 2 * n ≡ 2 * (i - n) = omega arith in e))
          (get_or-append_right front end (2 * n) (2 * i + 1) 0 start (omega arith) ∙ ap (λ k. get_or end k 0) (let e : 2 * i + 1 - 2 * n ≡ 2 * (i - n) + 1 = omega arith in e))
          ∙ is (i - n) (omega arith) ∙ ap (λ k. bit_xor (word k old) (other k)) here;
      below = λ i low. ap₂ (λ x y. x + 256 * y) (kept i start (2 * i) (omega arith)) (kept i start (2 * i + 1) (omega arith));
      above = λ i high. word_past (front ++ end) i (omega arith) ∙ sym (word_past old i (omega arith));
    }
  where
    kept : (i : ℕ) → length (take (2 * n) old) ≡ 2 * n → (k : ℕ) → k < 2 * n → get_or (take (2 * n) old ++ end) k 0 ≡ get_or old k 0
    kept i start k low = get_or_append_left (take (2 * n) old) end 0 k (omega (arith, start)) ∙ get_or-take (2 * n) old k 0 low

pub zeros_read : (n i : ℕ) → get_or {A = ℕ} (replicate n 0) i 0 ≡ 0
zeros_read zero i = refl
zeros_read (suc n) zero = refl
zeros_read (suc n) (suc i) = zeros_read n i

-- the first bytes
pub words_kept : (bytes front : List ℕ) (m j : ℕ) → front ≡ take m bytes → 2 * j + 1 < m → word j front ≡ word j bytes
words_kept bytes front m j is low = grind (arith, get_or-take)

-- bytes before zeros
pub padded_word : (bytes front back : List ℕ) (n j : ℕ) → front ≡ bytes → back ≡ drop n (replicate 64 0) → word j (front ++ back) ≡ word j bytes
padded_word bytes front back n j is zeros = ap₂ (λ x y. x + 256 * y) (go (2 * j)) (go (2 * j + 1))
  where
    go : (k : ℕ) → get_or (front ++ back) k 0 ≡ get_or bytes k 0
    go k = ap (λ xs. get_or (xs ++ back) k 0) is ∙ by_either (cases_lt k (length bytes)) (get_or_append_left bytes back 0 k)
        (λ past. get_or-append_right bytes back (length bytes) k 0 refl past ∙ ap (λ xs. get_or xs (k - length bytes) 0) zeros
        ∙ get_or-drop n (replicate 64 0) (k - length bytes) 0 ∙ zeros_read 64 (n + (k - length bytes)) ∙ sym (get_or_past bytes k 0 past))

-- to zeros
pub added_to_zeros : (other : ℕ → ℕ) (zeros new : List ℕ) (n k : ℕ) → ((i : ℕ) → get_or zeros i 0 ≡ 0) → 2 * n ≤ length zeros → k < n → AddsEach other zeros new 0 n → word k new ≡ other k
added_to_zeros other zeros new n k none fits low added = grind (arith, xor_zero_l)

-- The product of a word, nibble by nibble.

test_16 : tested (λ n. eqb (mul 16 n) (n * 16)) 16 ≡ true
unfolding mul
test_16 = refl

test_256 : tested (λ n. eqb (mul 256 n) (n * 256)) 16 ≡ true
unfolding mul
test_256 = refl

test_4096 : tested (λ n. eqb (mul 4096 n) (n * 4096)) 16 ≡ true
unfolding mul
test_4096 = refl

mul_16_16 : (mul 16 16 ≡ 256) × (mul 256 16 ≡ 4096) × (mul 2 (mul 2 (mul 2 2)) ≡ 16)
unfolding mul
mul_16_16 = (refl, refl, refl)

pub four_doublings : (x : ℕ) → x < 65536 → mul 2 (mul 2 (mul 2 (mul 2 x))) ≡ mul x 16
four_doublings x h =
    ap (λ v. mul 2 (mul 2 v)) (sym (product_assoc 2 2 x (omega arith) (omega arith) h))
    ∙ ap (mul 2) (sym (product_assoc 2 (mul 2 2) x (omega arith) four h))
    ∙ sym (product_assoc 2 (mul 2 (mul 2 2)) x (omega arith) (product-lt 2 (mul 2 2) (omega arith) four) h)
    ∙ ap (λ v. mul v x) mul_16_16.2
    ∙ product_comm 16 x (omega arith) h
  where
    four : mul 2 2 < 65536
    four = product-lt 2 2 (omega arith) (omega arith)

pub twice_sixteen : (c s t : ℕ) → c < 65536 → s ≡ mul c 16 → t ≡ mul s 16 → t ≡ mul c 256
twice_sixteen c s t h es et = grind (arith, product_assoc, mul_16_16)

pub thrice_sixteen : (c t u : ℕ) → c < 65536 → t ≡ mul c 256 → u ≡ mul t 16 → u ≡ mul c 4096
thrice_sixteen c t u h et eu = grind (arith, product_assoc, mul_16_16)

-- an element times a nibble at its place
in_place : (c k s n : ℕ) → c < 65536 → s < 65536 → n < 16 → k ≡ mul c s → tested (λ m. eqb (mul s m) (m * s)) 16 ≡ true → mul k n ≡ mul c (n * s)
in_place c k s n hc hs hn e test =
    ap (λ v. mul v n) e ∙ product_assoc c s n hc hs (omega arith)
    ∙ ap (mul c) (eqb-true (mul s n) (n * s) (tested_at (λ m. eqb (mul s m) (m * s)) 16 n test hn))

-- a byte is the sum of its nibbles, in place
byte_nibbles : (x : ℕ) → x ≡ bit_xor (x % 16) (x / 16 * 16)
byte_nibbles x =
    (let e : x ≡ x / 16 * 16 + x % 16 = omega arith in e)
    ∙ sym (xor_shifted (x / 16) 4 (x % 16) (omega arith)) ∙ xor_comm (x / 16 * 16) (x % 16)

word_bytes : (l h : ℕ) → l < 256 → l + 256 * h ≡ bit_xor l (h * 256)
word_bytes l h small =
    (let e : l + 256 * h ≡ h * 256 + l = omega arith in e)
    ∙ sym (xor_shifted h 8 l small) ∙ xor_comm (h * 256) l

pub split_product : (c k1 k2 k3 l h : ℕ) → c < 65536 → k1 ≡ mul c 16 → k2 ≡ mul c 256 → k3 ≡ mul c 4096 → l < 256 → h < 256
    → bit_xor (bit_xor (mul c (l % 16)) (mul k1 (l / 16))) (bit_xor (mul k2 (h % 16)) (mul k3 (h / 16))) ≡ mul c (l + 256 * h)
split_product c k1 k2 k3 l h hc e1 e2 e3 hl hh =
    let low : bit_xor (mul c (l % 16)) (mul k1 (l / 16)) ≡ mul c l =
    ap (bit_xor (mul c (l % 16))) (in_place c k1 16 (l / 16) hc (omega arith) (omega arith) e1 test_16)
    ∙ sym ((product_linear_right c).on_xor (l % 16) (l / 16 * 16)) ∙ ap (mul c) (sym (byte_nibbles l)) in
    let shifted : h * 256 ≡ bit_xor (h % 16 * 256) (h / 16 * 4096) =
    ap (λ v. v * 256) (byte_nibbles h) ∙ xor_shl 8 (h % 16) (h / 16 * 16)
    ∙ ap (bit_xor (h % 16 * 256)) (let e : h / 16 * 16 * 256 ≡ h / 16 * 4096 = omega arith in e) in
    let high : bit_xor (mul k2 (h % 16)) (mul k3 (h / 16)) ≡ mul c (h * 256) =
    ap₂ bit_xor (in_place c k2 256 (h % 16) hc (omega arith) (omega arith) e2 test_256)
    (in_place c k3 4096 (h / 16) hc (omega arith) (omega arith) e3 test_4096)
    ∙ sym ((product_linear_right c).on_xor (h % 16 * 256) (h / 16 * 4096)) ∙ ap (mul c) (sym shifted) in
    ap₂ bit_xor low high ∙ sym ((product_linear_right c).on_xor l (h * 256)) ∙ ap (mul c) (sym (word_bytes l h hl))

-- the product of a word in lanes, whose nibbles' products were added up
pub product_of_nibbles : (c k1 k2 k3 : ℕ) (low high firsts seconds thirds fourths : List ℕ) (j : ℕ) → j < 32 → c < 65536 → k1 ≡ mul c 16 → k2 ≡ mul c 256 → k3 ≡ mul c 4096
    → length low ≡ 32 → length high ≡ 32 → get_or low (lane_of j) 0 < 256 → get_or high (lane_of j) 0 < 256
    → firsts ≡ map (λ x. x % 16) low → seconds ≡ map (λ x. x / 16) low → thirds ≡ map (λ x. x % 16) high → fourths ≡ map (λ x. x / 16) high
    → bit_xor (bit_xor (mul c (get_or firsts (lane_of j) 0)) (mul k1 (get_or seconds (lane_of j) 0))) (bit_xor (mul k2 (get_or thirds (lane_of j) 0)) (mul k3 (get_or fourths (lane_of j) 0)))
    ≡ mul c (in_lane low high j)
product_of_nibbles c k1 k2 k3 low high firsts seconds thirds fourths j h hc e1 e2 e3 ll lh hl hh ef es et eo =
    ap₂ bit_xor
    (ap₂ (λ x y. bit_xor (mul c x) (mul k1 y)) (at_lane (λ x. x % 16) low firsts j h ll ef) (at_lane (λ x. x / 16) low seconds j h ll es))
    (ap₂ (λ x y. bit_xor (mul k2 x) (mul k3 y)) (at_lane (λ x. x % 16) high thirds j h lh et) (at_lane (λ x. x / 16) high fourths j h lh eo))
    ∙ split_product c k1 k2 k3 (get_or low (lane_of j) 0) (get_or high (lane_of j) 0) hc e1 e2 e3 hl hh

-- each nibble, twice
abbrev nibbles : List ℕ
nibbles = range_with_len 0 16 ++ range_with_len 0 16

test_nibbles : tested (λ n. eqb (get_or nibbles n 0) (n % 16)) 32 ≡ true
test_nibbles = refl

pub byte_table : (f : ℕ → ℕ) (g : ℕ → ℕ) (products table : List ℕ) → products ≡ map f nibbles → table ≡ map g products → IsTable (λ n. g (f n)) table
byte_table f g products table ep et =
    let count : length products ≡ 32 = ap length ep ∙ length-map nibbles f in
    record {
      count = ap length et ∙ length-map products g ∙ count;
      each = λ n h. ap (λ xs. get_or xs n 0) et ∙ get_or-map g products n 0 0 (omega (arith, count))
          ∙ ap g (ap (λ xs. get_or xs n 0) ep ∙ get_or-map f nibbles n 0 0 (omega arith)
          ∙ ap f (eqb-true (get_or nibbles n 0) (n % 16) (tested_at (λ m. eqb (get_or nibbles m 0) (m % 16)) 32 n test_nibbles h)));
    }
