-- Additions to buffers: by ranges, columns, groups and blocks of outputs.
use Rattle.par2_transform.proofs.Common.{inl, inr, ℕ, suc, ◌+◌, ◌-◌, ◌*◌, ◌<◌, ◌≤◌, ◌≡◌, ◌≢◌, refl, sym, ap, ap₂, ◌∙◌, arith, Bool, true, false, List, ◌++◌, length, get_or, take, drop, bit_xor, if◌then◌else◌, ◌&&◌, nat_le, nat_lt, slice_index, cases_lt, cases_eq, lt-ltb, le-ltb, le-leb, get_or-append_right, get_or_append_left, get_or-take, get_or-drop, length-take-le, length-drop, lt_of_le-ne, xor_assoc, xor_zero_r, xor_zero_l, word, list_at, OneChanged, field_sum, within, place_at, output_word, AddsAt, AddsTo, AreApart, HasByte, LieWithin, Place, ◌/◌, ◌%◌, min, get_or_past, Adds, Fit, Global, Vec, lists_of, subst, div_ceil, div_ceil_times, slice_begins, Columns, Places, LieIn, length-lists_of, AddsToEach, AreWholeBuffers, HaveWords, map, range_with_len, length-map-range_with_len, get_or-map-range_with_len, YieldsList-from_map, YieldsList-from_range, items_from_collect, ◌^◌, mul, pow, word_of, WordVector, field_sum_same, from_gathered, chirp_inverse, Grid, column, EachColumn, member, ArePowerSums, power_sum, point, Cut, set, with_items, with_items_is, written_changed, written_here, lt-leb, put_mid, same_len_mid, word_xor}

-- a word of the first bytes
pub first_word : (n p : ℕ) (bytes : List ℕ) → 2 * p + 1 < n → word p (take n bytes) ≡ word p bytes
first_word n p bytes low = ap₂ (λ a b. a + 256 * b) (get_or-take n bytes (2 * p) 0 (omega (arith, low))) (get_or-take n bytes (2 * p + 1) 0 low)

-- ---- within

pub within-in : (from to p x : ℕ) → from ≤ p → p < to → within from to p x ≡ x
within-in from to p x low high = ap₂ (λ a b. if a && b then x else 0) (leb-yes from p low) (lt-ltb p to high)
  where
    leb-yes : (a b : ℕ) → a ≤ b → nat_le a b ≡ true
    leb-yes a b h = le-leb a b h

pub within-below : (from to p x : ℕ) → p < from → within from to p x ≡ 0
within-below from to p x low = ap (λ a. if a && nat_lt p to then x else 0) (leb-no from p low)
  where
    leb-no : (a b : ℕ) → b < a → nat_le a b ≡ false
    leb-no a b h = lt-leb a b h

pub within-above : (from to p x : ℕ) → to ≤ p → within from to p x ≡ 0
within-above from to p x high = ap (λ b. if nat_le from p && b then x else 0) (le-ltb p to high) ∙ none (nat_le from p)
  where
    none : (a : Bool) → (if a && false then x else 0) ≡ 0
    none true = refl
    none false = refl

-- two ranges, one after the other
pub within_joined : (a b d p x : ℕ) → a ≤ b → b ≤ d → bit_xor (within a b p x) (within b d p x) ≡ within a d p x
within_joined a b d p x ab bd = grind (arith, within-below, within-in, xor_zero_r, within-above, xor_zero_l)

pub within_same : (from to p x y : ℕ) → (from ≤ p → p < to → x ≡ y) → within from to p x ≡ within from to p y
within_same from to p x y same = grind (arith, within-below, within-above)

pub zero_either_way : (b : Bool) (x : ℕ) → x ≡ 0 → (if b then x else 0) ≡ 0
zero_either_way true x none = none
zero_either_way false x none = refl

pub within_zero : (from to p x : ℕ) → x ≡ 0 → within from to p x ≡ 0
within_zero from to p x is = zero_either_way (nat_le from p && nat_lt p to) x is

pub within_none : (from to p x : ℕ) → to ≤ from → within from to p x ≡ 0
within_none from to p x empty = elim (cases_lt p from) [ inl below ↦ within-below from to p x below | inr above ↦ within-above from to p x (omega (arith, above)) ]

-- two ranges with the same end, as far as p goes
pub within_cut : (from to end p x : ℕ) → (p < to → p < end) → (p < end → p < to) → within from to p x ≡ within from end p x
within_cut from to end p x more less = grind (arith, within-below, within-in, within-above)

-- ---- buffers

pub adds_none : (places : List Place) (len : ℕ) (other : ℕ → ℕ → ℕ) (old : List (List ℕ)) → ((t p : ℕ) → other t p ≡ 0) → AddsAt places len other old old
adds_none places len other old none = grind (arith, xor_zero_r)

pub adds_more : (places : List Place) (len : ℕ) (first second both : ℕ → ℕ → ℕ) (old mid new : List (List ℕ)) → AddsAt places len first old mid → AddsAt places len second mid new
    → ((t p : ℕ) → t < length places → p < len → bit_xor (first t p) (second t p) ≡ both t p) → AddsAt places len both old new
adds_more places len first second both old mid new a b joined = grind (arith, xor_assoc)

pub adds_same : (places : List Place) (len : ℕ) (first second : ℕ → ℕ → ℕ) (old new : List (List ℕ)) → AddsAt places len first old new
    → ((t p : ℕ) → t < length places → p < len → first t p ≡ second t p) → AddsAt places len second old new
adds_same places len first second old new a same = grind arith

-- What is added range by range: `at` says for each word of an output which number it has.

pub adds_empty : {places : List Place} {len : ℕ} {buffers : List (List ℕ)} (at given : ℕ → ℕ → ℕ) (a b : ℕ) → b ≤ a → AddsAt places len (λ t p. within a b (at t p) (given t p)) buffers buffers
adds_empty {places = places} {len = len} {buffers = buffers} at given a b empty =
    adds_none places len (λ t p. within a b (at t p) (given t p)) buffers (λ t p. within_none a b (at t p) (given t p) empty)

pub adds_range : {places : List Place} {len : ℕ} {was half buffers : List (List ℕ)} (at given : ℕ → ℕ → ℕ) (a b d : ℕ) → AddsAt places len (λ t p. within a b (at t p) (given t p)) was half
    → AddsAt places len (λ t p. within b d (at t p) (given t p)) half buffers → a ≤ b → b ≤ d → AddsAt places len (λ t p. within a d (at t p) (given t p)) was buffers
adds_range {places = places} {len = len} {was = was} {half = half} {buffers = buffers} at given a b d first second ab bd =
    adds_more places len (λ t p. within a b (at t p) (given t p)) (λ t p. within b d (at t p) (given t p)) (λ t p. within a d (at t p) (given t p)) was half buffers first second
    (λ t p low fits. within_joined a b d (at t p) (given t p) ab bd)

pub adds_whole : {places : List Place} {len : ℕ} {was buffers : List (List ℕ)} (at given : ℕ → ℕ → ℕ) (b : ℕ) → AddsAt places len (λ t p. within 0 b (at t p) (given t p)) was buffers
    → ((t p : ℕ) → t < length places → p < len → at t p < b) → AddsAt places len given was buffers
adds_whole {places = places} {len = len} {was = was} {buffers = buffers} at given b added all =
    adds_same places len (λ t p. within 0 b (at t p) (given t p)) given was buffers added (λ t p low fits. within-in 0 b (at t p) (given t p) (omega arith) (all t p low fits))

-- a sum with one more term
pub adds_next : (places : List Place) (len n : ℕ) (part : ℕ → ℕ → ℕ → ℕ) (old mid new : List (List ℕ)) → AddsAt places len (λ t p. field_sum n (λ j. part j t p)) old mid → AddsAt places len (part n) mid new
    → AddsAt places len (λ t p. field_sum (n + 1) (λ j. part j t p)) old new
unfolding field_sum
adds_next places len n part old mid new a b =
    adds_more places len (λ t p. field_sum n (λ j. part j t p)) (part n) (λ t p. field_sum (n + 1) (λ j. part j t p)) old mid new a b
    (λ t p low fits. ap (λ k. field_sum k (λ j. part j t p)) (let e : suc n ≡ n + 1 = omega arith in e))

-- the outputs still lie within the buffers
pub still_within : (places : List Place) (len words : ℕ) (other : ℕ → ℕ → ℕ) (was buffers : List (List ℕ)) → AddsAt places len other was buffers → LieWithin words places was → LieWithin words places buffers
still_within places len words other was buffers added within t h = grind arith

-- ---- one output alone

-- to word p of the `words` words from byte `at` on, `other p` is added, and nothing else changes
pub record AddsToPart (at words : ℕ) (other : ℕ → ℕ) (old new : List ℕ) : Type 0 where
  pub same_length : length new ≡ length old
  pub each : (p : ℕ) → p < words → word p (drop at new) ≡ bit_xor (word p (drop at old)) (other p)
  pub before : (k : ℕ) → k < at → slice_index new k ≡ slice_index old k
  pub behind : (k : ℕ) → at + 2 * words ≤ k → slice_index new k ≡ slice_index old k

-- the bytes of the buffers outside the output are unchanged
byte_kept : (place : Place) (words : ℕ) (other : ℕ → ℕ) (old new : List (List ℕ)) → OneChanged old new place.buffer → AddsToPart place.at words other (list_at old place.buffer) (list_at new place.buffer)
    → (i k : ℕ) → (HasByte words place i k → ⊥) → slice_index (list_at new i) k ≡ slice_index (list_at old i) k
byte_kept place words other old new changed added i k outside = elim (cases_eq i place.buffer) [
  | inl same ↦
      ap (λ m. slice_index (list_at new m) k) same
      ∙ elim (cases_lt k place.at) [
        | inl before ↦ added.before k before
        | inr from_here ↦ elim (cases_lt k (place.at + 2 * words)) [
          | inl inside ↦ absurd (outside (sym same, (from_here, inside)))
          | inr behind ↦ added.behind k behind
        ]
      ]
      ∙ ap (λ m. slice_index (list_at old m) k) (sym same)
  | inr another ↦ ap (λ xs. slice_index xs k) (changed.others i another)
]

-- a word of the buffer from a byte on
pub word_from : (at p : ℕ) (bytes : List ℕ) → word p (drop at bytes) ≡ get_or bytes (at + 2 * p) 0 + 256 * get_or bytes (at + (2 * p + 1)) 0
word_from at p bytes = ap₂ (λ a b. a + 256 * b) (get_or-drop at bytes (2 * p) 0) (get_or-drop at bytes (2 * p + 1) 0)

pub adds_to_one : (places : List Place) (words t : ℕ) (other : ℕ → ℕ) (old new : List (List ℕ)) → AreApart words places → t < length places → OneChanged old new (place_at places t).buffer
    → AddsToPart (place_at places t).at words other (list_at old (place_at places t).buffer) (list_at new (place_at places t).buffer)
    → AddsAt places words (λ s p. within t (t + 1) s (other p)) old new
adds_to_one places words t other old new apart in_places changed added = record {
  count = changed.count;
  sizes = λ i. elim (cases_eq i place.buffer) [
    | inl same ↦ ap (λ k. length (list_at new k)) same ∙ added.same_length ∙ ap (λ k. length (list_at old k)) (sym same)
    | inr another ↦ ap length (changed.others i another)
  ];
  each = λ s p low fits. elim (cases_eq s t) [
    | inl same ↦
        ap (λ k. output_word places k p new) same ∙ added.each p fits
        ∙ ap₂ bit_xor (ap (λ k. output_word places k p old) (sym same)) (sym (within-in t (t + 1) s (other p) (omega arith) (omega arith)))
    | inr another ↦
        untouched s p low fits another
        ∙ sym (ap (bit_xor (output_word places s p old)) (outside s p another) ∙ xor_zero_r (output_word places s p old))
  ];
  others = λ i k none. byte_kept place words other old new changed added i k (none t in_places);
}
  where
    place : Place
    place = place_at places t

    kept : (s k : ℕ) → s < length places → s ≢ t → (place_at places s).at ≤ k → k < (place_at places s).at + 2 * words
        → slice_index (list_at new (place_at places s).buffer) k ≡ slice_index (list_at old (place_at places s).buffer) k
    kept s k low another from_here inside =
        byte_kept place words other old new changed added (place_at places s).buffer k (λ has. another (apart s t (place_at places s).buffer k low in_places (refl, (from_here, inside)) has))

    untouched : (s p : ℕ) → s < length places → p < words → s ≢ t → output_word places s p new ≡ output_word places s p old
    untouched s p low fits another =
        let at : ℕ = (place_at places s).at in
        word_from at p (list_at new (place_at places s).buffer)
        ∙ ap₂ (λ a b. a + 256 * b) (kept s (at + 2 * p) low another (omega arith) (omega (arith, fits))) (kept s (at + (2 * p + 1)) low another (omega arith) (omega (arith, fits)))
        ∙ sym (word_from at p (list_at old (place_at places s).buffer))

    outside : (s p : ℕ) → s ≢ t → within t (t + 1) s (other p) ≡ 0
    outside s p another = elim (cases_lt s t) [
      | inl below ↦ within-below t (t + 1) s (other p) below
      | inr above ↦ within-above t (t + 1) s (other p) (let e : t < s = lt_of_le-ne above (λ e. another (sym e)) in omega (arith, e))
    ]

-- ---- a part of a buffer that is written

pub part_below : {A : Type 0} (a k i : ℕ) (none : A) (xs ys : List A) → i < a → a ≤ length xs → get_or (put_mid a k xs ys) i none ≡ get_or xs i none
part_below a k i none xs ys low fits =
    get_or_append_left (take a xs) (ys ++ drop k (drop a xs)) none i (let e = length-take-le a xs fits in omega (arith, e)) ∙ get_or-take a xs i none low

pub part_here : {A : Type 0} (a k i : ℕ) (none : A) (xs ys : List A) → i < k → a ≤ length xs → length ys ≡ k → get_or (put_mid a k xs ys) (a + i) none ≡ get_or ys i none
part_here a k i none xs ys low fits size =
    let long : length (take a xs) ≡ a = length-take-le a xs fits in
    get_or-append_right (take a xs) (ys ++ drop k (drop a xs)) a (a + i) none long (omega arith)
    ∙ ap (λ m. get_or (ys ++ drop k (drop a xs)) m none) (let e : a + i - a ≡ i = omega arith in e)
    ∙ get_or_append_left ys (drop k (drop a xs)) none i (omega (arith, size))

pub part_above : {A : Type 0} (a k i : ℕ) (none : A) (xs ys : List A) → a + k ≤ i → a ≤ length xs → length ys ≡ k → get_or (put_mid a k xs ys) i none ≡ get_or xs i none
part_above a k i none xs ys high fits size =
    let long : length (take a xs) ≡ a = length-take-le a xs fits in
    get_or-append_right (take a xs) (ys ++ drop k (drop a xs)) a i none long (omega arith)
    ∙ get_or-append_right ys (drop k (drop a xs)) k (i - a) none size (omega arith)
    ∙ get_or-drop k (drop a xs) (i - a - k) none
    ∙ get_or-drop a xs (k + (i - a - k)) none
    ∙ ap (λ m. get_or xs m none) (let e : a + (k + (i - a - k)) ≡ i = omega arith in e)

-- the addition to some columns of an output, which begins at byte `at` of a buffer
pub adds_columns : (at words from to start k : ℕ) (other : ℕ → ℕ) (bytes new : List ℕ) → from ≤ to → to ≤ words → at + 2 * words ≤ length bytes → start ≡ at + 2 * from → k ≡ 2 * to - 2 * from
    → AddsTo other (take k (drop start bytes)) new → AddsToPart at words (λ p. within from to p (other (p - from))) bytes (put_mid start k bytes new)
adds_columns at words from to start k other bytes new order inside fits begins size added = record {
  same_length = same_len_mid start k bytes new added.same_length;
  each = λ p low. elim (cases_lt p from) [
    | inl below ↦ unchanged p (λ i b. left (at + i) (omega (arith, begins, below, b))) ∙ nothing p (within-below from to p (other (p - from)) below)
    | inr from_here ↦ elim (cases_lt p to) [
      | inl here ↦ written p (p - from) (omega arith) here ∙ ap (bit_xor (word p (drop at bytes))) (sym (within-in from to p (other (p - from)) from_here here))
      | inr above ↦ unchanged p (λ i b. right (at + i) (omega (arith, begins, size, order, above, b))) ∙ nothing p (within-above from to p (other (p - from)) above)
    ]
  ];
  before = λ i low. left i (omega (arith, begins, low));
  behind = λ i high. right i (omega (arith, begins, size, order, inside, high));
}
  where
    long : length (take k (drop start bytes)) ≡ k
    long = length-take-le k (drop start bytes) (let e = length-drop start bytes in omega (arith, e, fits, begins, size, order, inside))

    new_size : length new ≡ k
    new_size = added.same_length ∙ long

    room : start ≤ length bytes
    room = omega (arith, fits, begins, order, inside)

    left : (i : ℕ) → i < start → get_or (put_mid start k bytes new) i 0 ≡ get_or bytes i 0
    left i low = part_below start k i 0 bytes new low room

    right : (i : ℕ) → start + k ≤ i → get_or (put_mid start k bytes new) i 0 ≡ get_or bytes i 0
    right i high = part_above start k i 0 bytes new high room new_size

    unchanged : (p : ℕ) → ((i : ℕ) → (2 * p ≤ i) × (i ≤ 2 * p + 1) → get_or (put_mid start k bytes new) (at + i) 0 ≡ get_or bytes (at + i) 0) → word p (drop at (put_mid start k bytes new)) ≡ word p (drop at bytes)
    unchanged p same =
        word_from at p (put_mid start k bytes new)
        ∙ ap₂ (λ a b. a + 256 * b) (same (2 * p) (omega arith, omega arith)) (same (2 * p + 1) (omega arith, omega arith))
        ∙ sym (word_from at p bytes)

    nothing : (p : ℕ) {x : ℕ} → x ≡ 0 → word p (drop at bytes) ≡ bit_xor (word p (drop at bytes)) x
    nothing p none = sym (ap (bit_xor (word p (drop at bytes))) none ∙ xor_zero_r (word p (drop at bytes)))

    written : (p q : ℕ) → p ≡ from + q → p < to → word p (drop at (put_mid start k bytes new)) ≡ bit_xor (word p (drop at bytes)) (other (p - from))
    written p q place here =
        let low : 2 * q + 1 < k = omega (arith, place, size, here) in
        let even : at + 2 * p ≡ start + 2 * q = omega (arith, place, begins) in
        let odd : at + (2 * p + 1) ≡ start + (2 * q + 1) = omega (arith, place, begins) in
        word_from at p (put_mid start k bytes new)
        ∙ ap₂ (λ a b. a + 256 * b)
        (ap (λ m. get_or (put_mid start k bytes new) m 0) even ∙ part_here start k (2 * q) 0 bytes new (omega (arith, low)) room new_size)
        (ap (λ m. get_or (put_mid start k bytes new) m 0) odd ∙ part_here start k (2 * q + 1) 0 bytes new low room new_size)
        ∙ added.each q (omega (arith, low, long))
        ∙ ap₂ bit_xor
        (ap₂ (λ a b. a + 256 * b)
        (get_or-take k (drop start bytes) (2 * q) 0 (omega (arith, low)) ∙ get_or-drop start bytes (2 * q) 0 ∙ ap (λ m. get_or bytes m 0) (sym even))
        (get_or-take k (drop start bytes) (2 * q + 1) 0 low ∙ get_or-drop start bytes (2 * q + 1) 0 ∙ ap (λ m. get_or bytes m 0) (sym odd))
        ∙ sym (word_from at p bytes))
        (ap other (let e : q ≡ p - from = omega (arith, place) in e))

-- to these columns of output t
pub added_to_output : (columns : Columns) (t : ℕ) (other : ℕ → ℕ) (buffers : List (Vec ℕ Global)) (was : Vec ℕ Global) (bytes new : List ℕ) → LieIn columns.outputs buffers → t < length columns.outputs.places.now
    → bytes ≡ list_at (lists_of buffers) (place_at columns.outputs.places.now t).buffer
    → length (put_mid ((place_at columns.outputs.places.now t).at + 2 * columns.from) ((place_at columns.outputs.places.now t).at + 2 * columns.to - ((place_at columns.outputs.places.now t).at + 2 * columns.from)) bytes new) ≡ was.len
    → AddsTo other (take ((place_at columns.outputs.places.now t).at + 2 * columns.to - ((place_at columns.outputs.places.now t).at + 2 * columns.from)) (drop ((place_at columns.outputs.places.now t).at + 2 * columns.from) bytes)) new
    → Adds columns.outputs (λ s p. within t (t + 1) s (within columns.from columns.to p (other (p - columns.from)))) buffers
    (set buffers (place_at columns.outputs.places.now t).buffer (with_items was (put_mid ((place_at columns.outputs.places.now t).at + 2 * columns.from) ((place_at columns.outputs.places.now t).at + 2 * columns.to - ((place_at columns.outputs.places.now t).at + 2 * columns.from)) bytes new)))
added_to_output columns t other buffers was bytes new room in_places before size added =
    let place = place_at columns.outputs.places.now t in
    let start = place.at + 2 * columns.from in
    let k = place.at + 2 * columns.to - start in
    let all = put_mid start k bytes new in
    let in_buffers = subst (λ n. place.buffer < n) (length-lists_of buffers) ((room t in_places).0) in
    let after = written_here buffers place.buffer (with_items was all) in_buffers ∙ with_items_is was all size in
    adds_to_one columns.outputs.places.now columns.outputs.words t (λ p. within columns.from columns.to p (other (p - columns.from))) (lists_of buffers) (lists_of (set buffers place.buffer (with_items was all))) columns.outputs.apart in_places
    (written_changed buffers place.buffer _)
    (rw (after, ← before)
    (adds_columns place.at columns.outputs.words columns.from columns.to start k other bytes new columns.order columns.inside (rw (← before) at ((room t in_places).1)) (omega arith) (omega arith) added))

-- what `auto` is given for the code
pub ruleset adding_steps = (first_word, adds_columns)

-- Additions to buffers, and copies.

-- ---- bytes added

pub words_added : (src old new : List ℕ) → length new ≡ length old
    → ((k : ℕ) → get_or src k 0 < 256) → ((k : ℕ) → get_or old k 0 < 256) → ((k : ℕ) → k < length old → get_or new k 0 ≡ bit_xor (get_or old k 0) (get_or src k 0)) → AddsTo (λ p. word p src) old new
words_added src old new size hs ho each = record {
  same_length = size;
  each = λ p h.
      let s0 : get_or src (2 * p) 0 < 256 = hs (2 * p) in
      let s1 : get_or src (2 * p + 1) 0 < 256 = hs (2 * p + 1) in
      let low : word p src % 256 ≡ get_or src (2 * p) 0 = omega arith in
      let high : word p src / 256 ≡ get_or src (2 * p + 1) 0 = omega arith in
      ap₂ (λ x y. x + 256 * y) (each (2 * p) (omega arith) ∙ ap (bit_xor (get_or old (2 * p) 0)) (sym low)) (each (2 * p + 1) h ∙ ap (bit_xor (get_or old (2 * p + 1) 0)) (sym high))
      ∙ word_xor (get_or old (2 * p) 0) (get_or old (2 * p + 1) 0) (word p src) (ho (2 * p)) (ho (2 * p + 1)) (omega arith);
}

-- ---- a buffer that is copied, and padded with zeros

pub padded_copy : (bytes front back : List ℕ) (n m : ℕ) → n ≡ min (length bytes) m → front ≡ take n bytes → ((k : ℕ) → get_or back k 0 ≡ 0) → (k : ℕ) → k < m → get_or (front ++ back) k 0 ≡ get_or bytes k 0
padded_copy bytes front back n m count is zeros k h =
    let size : length front ≡ n = ap length is ∙ length-take-le n bytes (omega (arith, count)) in
    elim (cases_lt k n) [
      | inl low ↦ get_or_append_left front back 0 k (omega (arith, size, low)) ∙ ap (λ xs. get_or xs k 0) is ∙ get_or-take n bytes k 0 low
      | inr high ↦ get_or-append_right front back n k 0 size high ∙ zeros (k - n) ∙ sym (get_or_past bytes k 0 (omega (arith, count, high)))
    ]

-- Columns of words, one block of columns after the other.

-- a block of columns begins before the words end
pub begins : (words columns k n : ℕ) → 1 ≤ columns → n ≡ div_ceil words columns → k < n → k * columns < words
begins words columns k n some is low = slice_begins words columns k (omega (arith, some)) (subst (λ m. k < m) is low)

-- the outputs of columns still lie inside the buffers
pub columns_within : (outputs : Places) (columns : Columns) (other : ℕ → ℕ → ℕ) (was buffers : List (List ℕ)) → columns.outputs ≡ outputs → AddsAt outputs.places.now outputs.words other was buffers
    → LieWithin outputs.words outputs.places.now was → LieWithin columns.outputs.words columns.outputs.places.now buffers
columns_within outputs columns other was buffers same added room =
    subst (λ (o : Places). LieWithin o.words o.places.now buffers) (sym same) (still_within outputs.places.now outputs.words outputs.words other was buffers added room)

pub still_fits : (width : ℕ) (columns : Columns) (other : ℕ → ℕ → ℕ) (was buffers : List (Vec ℕ Global)) → Adds columns.outputs other was buffers → Fit width columns was → Fit width columns buffers
still_fits width columns other was buffers added fit =
    let room = still_within columns.outputs.places.now columns.outputs.words columns.outputs.words other (lists_of was) (lists_of buffers) added fit.room in
    record { narrow = fit.narrow; room = room }

pub wider_fit : (width wider : ℕ) (columns : Columns) (other : ℕ → ℕ → ℕ) (was buffers : List (Vec ℕ Global)) → Adds columns.outputs other was buffers → Fit width columns was → width ≤ wider → Fit wider columns buffers
wider_fit width wider columns other was buffers added fit more =
    let still = still_fits width columns other was buffers added fit in
    record { narrow = omega (arith, still.narrow, more); room = still.room }

-- the words have been added in the first n blocks of columns
abbrev pub WordsAdded : Places → ℕ → (ℕ → ℕ → ℕ) → ℕ → List (List ℕ) → List (List ℕ) → Type 0
WordsAdded outputs width given n was buffers = AddsAt outputs.places.now outputs.words (λ t p. within 0 (min outputs.words (n * width)) p (given t p)) was buffers

pub no_words : (outputs : Places) (width : ℕ) (given : ℕ → ℕ → ℕ) (buffers : List (List ℕ)) → WordsAdded outputs width given 0 buffers buffers
no_words outputs width given buffers = adds_empty (λ t p. p) given 0 (min outputs.words (0 * width)) (omega arith)

pub next_words : (outputs : Places) (columns : Columns) (width n : ℕ) (given : ℕ → ℕ → ℕ) (was half buffers : List (List ℕ)) → WordsAdded outputs width given n was half → n * width < outputs.words
    → columns.outputs ≡ outputs → columns.from ≡ n * width → columns.to ≡ min outputs.words ((n + 1) * width)
    → AddsAt columns.outputs.places.now columns.outputs.words (λ t p. within columns.from columns.to p (given t p)) half buffers → WordsAdded outputs width given (n + 1) was buffers
next_words outputs columns width n given was half buffers so_far low same from to added =
    let here : min outputs.words (n * width) ≡ columns.from = omega (arith, low, from) in
    subst (λ m. AddsAt outputs.places.now outputs.words (λ t p. within 0 m p (given t p)) was buffers) to
    (adds_range (λ t p. p) given 0 columns.from columns.to (subst (λ m. AddsAt outputs.places.now outputs.words (λ t p. within 0 m p (given t p)) was half) here so_far)
    (subst (λ (o : Places). AddsAt o.places.now o.words (λ t p. within columns.from columns.to p (given t p)) half buffers) same added) (omega arith) columns.order)

pub all_words : (outputs : Places) (width n : ℕ) (given : ℕ → ℕ → ℕ) (was buffers : List (List ℕ)) → 1 ≤ width → n ≡ div_ceil outputs.words width → WordsAdded outputs width given n was buffers
    → AddsAt outputs.places.now outputs.words given was buffers
all_words outputs width n given was buffers some is added =
    let enough : outputs.words ≤ n * width = subst (λ m. outputs.words ≤ m * width) (sym is) (div_ceil_times outputs.words width (omega (arith, some))).0 in
    adds_whole (λ t p. p) given (min outputs.words (n * width)) added (λ t p h fits. omega (arith, enough, fits))

-- Outputs that are a whole buffer each.

pub are_whole_buffers : (n : ℕ) (places : List Place) → places ≡ map (λ t. record { buffer = t; at = 0 }) (range_with_len 0 n) → AreWholeBuffers n places
are_whole_buffers n places is = record {
  count = ap length is ∙ length-map-range_with_len (λ t. record { buffer = t; at = 0 }) 0 n;
  each = λ t low. subst (λ (x : Place). (x.buffer ≡ t) × (x.at ≡ 0)) (sym (ap (λ (xs : List Place). place_at xs t) is ∙ get_or-map-range_with_len (λ t. record { buffer = t; at = 0 }) 0 n t t _ low (omega arith))) (refl, refl);
}

pub whole_apart : (words count : ℕ) (places : List Place) → AreWholeBuffers count places → AreApart words places
whole_apart words count places whole s t i k s_low t_low a b = grind arith

pub whole_within : (words : ℕ) (places : List Place) (buffers : List (List ℕ)) → AreWholeBuffers (length buffers) places → HaveWords words buffers → LieWithin words places buffers
whole_within words places buffers whole have t h = grind arith

pub whole_added : (words : ℕ) (other : ℕ → ℕ → ℕ) (places : List Place) (old new : List (List ℕ)) → AreWholeBuffers (length old) places → HaveWords words old
    → AddsAt places words other old new → AddsToEach other old new
whole_added words other places old new whole have added = record {
  count = added.count;
  sizes = added.sizes;
  each = λ t p low fits.
      let n = whole.count in
      let size = have t low in
      sym (here t p low new) ∙ added.each t p (omega (arith, n, low)) (omega (arith, size, fits)) ∙ ap (λ x. bit_xor x (other t p)) (here t p low old);
}
  where
    here : (t p : ℕ) → t < length old → (buffers : List (List ℕ)) → output_word places t p buffers ≡ word p (list_at buffers t)
    here t p low buffers = let is = whole.each t low in ap₂ (λ (i a : ℕ). word p (drop a (list_at buffers i))) is.0 is.1

-- the outputs are the whole buffers
pub record AreWhole (outputs : Places) (buffers : List (Vec ℕ Global)) : Type 0 where
  pub count : length outputs.places.now ≡ length buffers
  pub room : LieIn outputs buffers
  pub each : (other : ℕ → ℕ → ℕ) (new : List (Vec ℕ Global)) → Adds outputs other buffers new → AddsToEach other (lists_of buffers) (lists_of new)

pub are_whole : (words : ℕ) (outputs : Places) (places : List Place) (buffers : List (Vec ℕ Global)) → AreWholeBuffers (length buffers) places → outputs.places.now ≡ places → outputs.words ≡ words
    → HaveWords words (lists_of buffers) → AreWhole outputs buffers
are_whole words outputs places buffers whole places_are words_are have =
    let here : AreWholeBuffers (length buffers) outputs.places.now = subst (λ (ps : List Place). AreWholeBuffers (length buffers) ps) (sym places_are) whole in
    let all : AreWholeBuffers (length (lists_of buffers)) outputs.places.now = subst (λ (n : ℕ). AreWholeBuffers n outputs.places.now) (sym (length-lists_of buffers)) here in
    let size : HaveWords outputs.words (lists_of buffers) = subst (λ (n : ℕ). HaveWords n (lists_of buffers)) (sym words_are) have in
    record {
      count = here.count;
      room = whole_within outputs.words outputs.places.now (lists_of buffers) all size;
      each = λ other new added. whole_added outputs.words other outputs.places.now (lists_of buffers) (lists_of new) all size added;
    }

pub ruleset whole_tables = (YieldsList-from_map, YieldsList-from_range, items_from_collect, are_whole_buffers)

-- Outputs, group by group.

-- some of the places
abbrev pub group_of : ℕ → ℕ → List Place → List Place
group_of from to all = take (to - from) (drop from all)

pub length-group : (from to : ℕ) (all : List Place) → from ≤ to → to ≤ length all → length (group_of from to all) ≡ to - from
length-group from to all order fits = length-take-le (to - from) (drop from all) (let e = length-drop from all in omega (arith, e, order, fits))

pub in_group : (from to q : ℕ) (all : List Place) → q < to - from → place_at (group_of from to all) q ≡ place_at all (from + q)
in_group from to q all low = get_or-take (to - from) (drop from all) q (record { buffer = 0; at = 0 }) low ∙ get_or-drop from all q (record { buffer = 0; at = 0 })

-- they are apart too
pub group_apart : (words from to : ℕ) (all : List Place) → from ≤ to → to ≤ length all → AreApart words all → AreApart words (group_of from to all)
group_apart words from to all order fits apart s t i k s_low t_low in_s in_t =
    let n = length-group from to all order fits in
    let s_here = in_group from to s all (omega (arith, n, s_low)) in
    let t_here = in_group from to t all (omega (arith, n, t_low)) in
    let same : from + s ≡ from + t =
    apart (from + s) (from + t) i k (omega (arith, n, s_low, fits, order)) (omega (arith, n, t_low, fits, order))
    (subst (λ (place : Place). HasByte words place i k) s_here in_s) (subst (λ (place : Place). HasByte words place i k) t_here in_t) in
    omega (arith, same)

pub group_within : (words from to : ℕ) (all : List Place) (buffers : List (List ℕ)) → from ≤ to → to ≤ length all → LieWithin words all buffers → LieWithin words (group_of from to all) buffers
group_within words from to all buffers order fits within t low =
    let n = length-group from to all order fits in
    subst (λ (place : Place). (place.buffer < length buffers) × (place.at + 2 * words ≤ length (list_at buffers place.buffer))) (sym (in_group from to t all (omega (arith, n, low))))
    (within (from + t) (omega (arith, n, low, fits, order)))

-- the addition to one group
pub adds_to_group : (from to words : ℕ) (other : ℕ → ℕ → ℕ) (all : List Place) (old new : List (List ℕ)) → from ≤ to → to ≤ length all → AreApart words all
    → AddsAt (group_of from to all) words (λ t p. other (from + t) p) old new
    → AddsAt all words (λ t p. within from to t (other t p)) old new
adds_to_group from to words other all old new order fits apart added = record {
  count = added.count;
  sizes = added.sizes;
  each = λ t p low room. elim (cases_lt t from) [
    | inl below ↦ untouched t p low room (λ q under. λ e. omega (arith, e, below)) ∙ sym (ap (bit_xor (output_word all t p old)) (within-below from to t (other t p) below) ∙ xor_zero_r (output_word all t p old))
    | inr from_here ↦ elim (cases_lt t to) [
      | inl here ↦
          let q : ℕ = t - from in
          let place : t ≡ from + q = omega (arith, from_here) in
          let under : q < to - from = omega (arith, from_here, here) in
          let output : place_at (group_of from to all) q ≡ place_at all t = in_group from to q all under ∙ ap (place_at all) (sym place) in
          ap (λ (x : Place). word p (drop x.at (list_at new x.buffer))) (sym output)
          ∙ added.each q p (let n = length-group from to all order fits in omega (arith, n, under)) room
          ∙ ap₂ bit_xor (ap (λ (x : Place). word p (drop x.at (list_at old x.buffer))) output) (ap (λ n. other n p) (sym place))
          ∙ ap (bit_xor (output_word all t p old)) (sym (within-in from to t (other t p) from_here here))
      | inr above ↦ untouched t p low room (λ q under. λ e. omega (arith, e, above, under)) ∙ sym (ap (bit_xor (output_word all t p old)) (within-above from to t (other t p) above) ∙ xor_zero_r (output_word all t p old))
    ]
  ];
  others = λ i k outside. added.others i k (λ q low has.
      let n = length-group from to all order fits in
      outside (from + q) (omega (arith, n, low, fits, order)) (subst (λ (place : Place). HasByte words place i k) (in_group from to q all (omega (arith, n, low))) has));
}
  where
    kept : (t k : ℕ) → t < length all → ((q : ℕ) → q < to - from → t ≢ from + q) → (place_at all t).at ≤ k → k < (place_at all t).at + 2 * words
        → slice_index (list_at new (place_at all t).buffer) k ≡ slice_index (list_at old (place_at all t).buffer) k
    kept t k low apart_from at_least inside =
        added.others (place_at all t).buffer k (λ q q_low has.
        let n = length-group from to all order fits in
        let under : q < to - from = omega (arith, n, q_low) in
        apart_from q under
        (apart t (from + q) (place_at all t).buffer k low (omega (arith, under, fits, order)) (refl, (at_least, inside))
        (subst (λ (place : Place). HasByte words place (place_at all t).buffer k) (in_group from to q all under) has)))

    untouched : (t p : ℕ) → t < length all → p < words → ((q : ℕ) → q < to - from → t ≢ from + q) → output_word all t p new ≡ output_word all t p old
    untouched t p low room apart_from =
        let at : ℕ = (place_at all t).at in
        word_from at p (list_at new (place_at all t).buffer)
        ∙ ap₂ (λ a b. a + 256 * b) (kept t (at + 2 * p) low apart_from (omega arith) (omega (arith, room))) (kept t (at + (2 * p + 1)) low apart_from (omega arith) (omega (arith, room)))
        ∙ sym (word_from at p (list_at old (place_at all t).buffer))

-- what `auto` is given for the code
pub ruleset group_steps = (group_within, length-group, begins, still_within, are_whole, whole_apart)

-- From power sums in rows to the outputs of a block.

-- the first coset's power sums are sums over the points
pub power_sum_plain : (weight : ℕ → ℕ) (k e : ℕ) → power_sum k 0 weight e ≡ field_sum (2 ^ k) (λ u. mul (weight u) (pow (point u) e))
unfolding power_sum
power_sum_plain weight k e =
    field_sum_same (2 ^ k) (λ u. mul (weight u) (pow (point (member k 0 u)) e)) (λ u. mul (weight u) (pow (point u) e))
    (λ u h. ap (λ m. mul (weight u) (pow (point m) e)) (let s : member k 0 u ≡ u = omega arith in s))

-- the addition to word p of output t of a block
abbrev pub output_part : Cut → Grid → ℕ → ℕ → ℕ → ℕ → ℕ → ℕ → ℕ → ℕ
output_part cut sums e r from to first t p = within from to p (from_gathered cut (column sums (p - from)) e (t - first) r)

-- the first n outputs of the block have it
abbrev pub OutputsAdded : List Place → ℕ → Cut → Grid → ℕ → ℕ → ℕ → ℕ → ℕ → ℕ → List (List ℕ) → List (List ℕ) → Type 0
OutputsAdded places len cut sums e r from to first n was buffers =
    AddsAt places len (λ t p. within first (first + n) t (output_part cut sums e r from to first t p)) was buffers

pub no_output : (places : List Place) (len : ℕ) (cut : Cut) (sums : Grid) (e r from to first : ℕ) (buffers : List (List ℕ)) → OutputsAdded places len cut sums e r from to first 0 buffers buffers
no_output places len cut sums e r from to first buffers = adds_empty (λ t p. t) (output_part cut sums e r from to first) first (first + 0) (omega arith)

pub next_output : (places : List Place) (len : ℕ) (cut : Cut) (was_sums sums : Grid) (e r from to first n factor : ℕ) (row : List WordVector) (was before buffers : List (List ℕ))
    → EachColumn (ArePowerSums was_sums.levels 0) was_sums sums → was_sums.levels ≡ cut.levels → n < 2 ^ cut.levels → to ≤ from + was_sums.words
    → factor ≡ mul (pow 2 ((e + n) * r)) (chirp_inverse cut.classes (e + n)) → ((c : ℕ) → word_of row c ≡ column sums c n)
    → OutputsAdded places len cut was_sums e r from to first n was before
    → AddsAt places len (λ t p. within (first + n) (first + n + 1) t (within from to p (mul factor (word_of row (p - from))))) before buffers
    → OutputsAdded places len cut was_sums e r from to first (n + 1) was buffers
next_output places len cut was_sums sums e r from to first n factor row was before buffers sums_are levels low narrow factor_is row_is so_far added =
    adds_more places len (λ t p. within first (first + n) t (part t p)) (λ t p. within (first + n) (first + n + 1) t (within from to p (mul factor (word_of row (p - from)))))
    (λ t p. within first (first + (n + 1)) t (part t p)) was before buffers so_far added
    (λ t p h fits.
    ap (bit_xor (within first (first + n) t (part t p)))
    (within_same (first + n) (first + n + 1) t (within from to p (mul factor (word_of row (p - from)))) (part t p)
    (λ at_least below. within_same from to p (mul factor (word_of row (p - from))) (from_gathered cut (column was_sums (p - from)) e (t - first) r)
    (λ p_low p_high. product p p_low p_high ∙ ap (λ m. from_gathered cut (column was_sums (p - from)) e m r) (let s : n ≡ t - first = omega arith in s))))
    ∙ within_joined first (first + n) (first + n + 1) t (part t p) (omega arith) (omega arith)
    ∙ ap (λ m. within first m t (part t p)) (let s : first + n + 1 ≡ first + (n + 1) = omega arith in s))
  where
    part : ℕ → ℕ → ℕ
    part t p = output_part cut was_sums e r from to first t p

    product : (p : ℕ) → from ≤ p → p < to → mul factor (word_of row (p - from)) ≡ from_gathered cut (column was_sums (p - from)) e n r
    product p p_low p_high =
        ap₂ mul factor_is
        (row_is (p - from) ∙ sums_are.columns (p - from) (omega arith) n (subst (λ k. n < 2 ^ k) (sym levels) low)
        ∙ ap (λ k. power_sum k 0 (column was_sums (p - from)) n) levels ∙ power_sum_plain (column was_sums (p - from)) cut.levels n)

-- there are no outputs past the end
pub all_outputs : (places : List Place) (len : ℕ) (cut : Cut) (sums : Grid) (e r from to first size n : ℕ) (was buffers : List (List ℕ)) → n ≡ min size (length places - first)
    → OutputsAdded places len cut sums e r from to first n was buffers → OutputsAdded places len cut sums e r from to first size was buffers
all_outputs places len cut sums e r from to first size n was buffers is added =
    adds_same places len (λ t p. within first (first + n) t (part t p)) (λ t p. within first (first + size) t (part t p)) was buffers added
    (λ t p h fits. within_cut first (first + n) (first + size) t (part t p) (λ l. omega (arith, is, l)) (λ l. omega (arith, is, l, h)))
  where
    part : ℕ → ℕ → ℕ
    part t p = output_part cut sums e r from to first t p

-- what `auto` is given for the code
pub ruleset output_steps = (no_output, all_outputs)
