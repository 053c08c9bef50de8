-- The names of volumes, and their exponents: the string of a name is a name if it has at most 255 bytes.
use Rattle.par2_inputs.proofs.Common.{◌≡◌, ℕ, ◌+◌, ◌-◌, ◌<◌, ◌≤◌, List, [], ◌∷◌, ◌++◌, length, take, drop, refl, sym, ap, ◌∙◌, subst, Bool, true, false, arith, length-append, length-take-le, take-append-drop, codes, nat_eq, ◌==◌, list_any, starts_with, is_utf8, or_from, or_parts, false_from_ne_true, not_from_false, ne_eqb, le-leb, not-true, list_any-append, is_name, five_digits, stem, volume_name, clash, tests_of, name_of, append_assoc, lt-ltb, ltb-true, le-ltb, leb-true, where_none, CreateArgs, volume_size, volume_numbers, volumes_before, output_names, volume_at, volume_if, volumes_of, volume_names, map, cond, ◌||◌, Some, None, filter, range_with_len, map-append, fault_where, NameTooLong, any-map, range-append, map-cond, name_is_short, Volume, long_name, head_fault, nat_lt, All, filter-append, filter_passes, All-map, All-weaker, front_of_name, longer}
use Rattle.par2_inputs.proofs.Refusals.{head_passed}

-- the part after the stem
abbrev rest_of : ℕ → ℕ → List ℕ
rest_of x n = codes ".vol" ++ (five_digits x ++ (codes "+" ++ (five_digits n ++ codes ".par2")))

name_is : (base : List ℕ) (x n : ℕ) → volume_name base x n ≡ stem base ++ rest_of x n
name_is base x n = simp append_assoc

-- a byte below the digits isn't one
no_digit : (low d : ℕ) → low < 48 → ((48 + d) == low) ≡ false
no_digit low d h = ne_eqb (48 + d) low (λ e. absurd (omega (arith, e, h)))

no_digits : (low n : ℕ) → low < 48 → list_any (λ b. b == low) (five_digits n) ≡ false
no_digits low n h = grind (arith, or_from, no_digit)

not_in_rest : (low x n : ℕ) → low < 48 → list_any (λ b. b == low) (codes ".vol") ≡ false → list_any (λ b. b == low) (codes "+") ≡ false → list_any (λ b. b == low) (codes ".par2") ≡ false
    → list_any (λ b. b == low) (rest_of x n) ≡ false
not_in_rest low x n h vol plus par =
    let a = no_digits low x h in
    let b = no_digits low n h in
    grind (arith, list_any-append, or_from, a, b)

not_in_front : (test : ℕ → Bool) (k : ℕ) (xs : List ℕ) → list_any test xs ≡ false → list_any test (take k xs) ≡ false
not_in_front test k xs h =
    (or_parts (list_any test (take k xs)) (list_any test (drop k xs)) (sym (list_any-append test (take k xs) (drop k xs)) ∙ ap (list_any test) (take-append-drop k xs) ∙ h)).0

not_in_name : (low : ℕ) (base : List ℕ) (x n : ℕ) → list_any (λ b. b == low) base ≡ false → list_any (λ b. b == low) (rest_of x n) ≡ false → list_any (λ b. b == low) (volume_name base x n) ≡ false
not_in_name low base x n h k =
    ap (list_any (λ b. b == low)) (name_is base x n) ∙ list_any-append (λ b. b == low) (stem base) (rest_of x n)
    ∙ or_from _ _ (not_in_front (λ b. b == low) (length base - 5) base h) k

-- a prefix of a list is a prefix of each longer one
front_of_longer : (front bytes more : List ℕ) → starts_with nat_eq bytes front ≡ true → starts_with nat_eq (bytes ++ more) front ≡ true
front_of_longer [] bytes more k = refl
front_of_longer (b ∷ front) [] more k = absurd (clash k refl)
front_of_longer (b ∷ front) (c ∷ bytes) more k =
    grind (arith, front_of_longer front bytes more)

-- if a volume's name begins as the files of the history do, so does its stem
stem_begins : (st rest : List ℕ) → starts_with nat_eq (st ++ (codes ".vol" ++ rest)) (codes ".par2undo") ≡ true → starts_with nat_eq st (codes ".par2undo") ≡ true
stem_begins [] rest k = absurd (clash k refl)
stem_begins (c ∷ st) rest k =
    grind (arith, front_of_name (codes "par2undo") st (codes "vol" ++ rest) refl)

not_undo : (base : List ℕ) (x n : ℕ) → starts_with nat_eq base (codes ".par2undo") ≡ false → starts_with nat_eq (volume_name base x n) (codes ".par2undo") ≡ false
not_undo base x n h = false_from_ne_true _ (λ k.
    let front : starts_with nat_eq (stem base) (codes ".par2undo") ≡ true = stem_begins (stem base) (five_digits x ++ (codes "+" ++ (five_digits n ++ codes ".par2")))
    (subst (λ bytes. starts_with nat_eq bytes (codes ".par2undo") ≡ true) (name_is base x n) k) in
    let whole : starts_with nat_eq (stem base ++ drop (length base - 5) base) (codes ".par2undo") ≡ true = front_of_longer (codes ".par2undo") (stem base) (drop (length base - 5) base) front in
    clash (subst (λ bytes. starts_with nat_eq bytes (codes ".par2undo") ≡ true) (take-append-drop (length base - 5) base) whole) h)

pub length-name : (base : List ℕ) (x n : ℕ) → length (volume_name base x n) ≡ length base - 5 + 20
length-name base x n = ap length (name_is base x n) ∙ length-append (stem base) (rest_of x n) ∙ (let front = length-take-le (length base - 5) base (omega arith) in omega (arith, front))

pub volume_is_name : (base : List ℕ) (x n : ℕ) → is_name base ≡ true → is_utf8 (volume_name base x n) ≡ true → length (volume_name base x n) ≤ 255 → is_name (volume_name base x n) ≡ true
volume_is_name base x n h bytes short =
    let t = tests_of base h in
    let name = volume_name base x n in
    let long : 20 ≤ length name = omega (arith, length-name base x n) in
    name_of name (record {
      some = le-leb 1 (length name) (omega (arith, long));
      short = le-leb (length name) 255 short;
      bytes = bytes;
      no_slash = not_from_false _ (not_in_name 0x2F base x n (not-true _ t.no_slash) (not_in_rest 0x2F x n (omega arith) refl refl refl));
      no_zero = not_from_false _ (not_in_name 0 base x n (not-true _ t.no_zero) (not_in_rest 0 x n (omega arith) refl refl refl));
      no_dot = not_from_false _ (longer name (codes ".") (omega (arith, long)));
      no_dots = not_from_false _ (longer name (codes "..") (omega (arith, long)));
      no_undo = not_from_false _ (not_undo base x n (not-true _ t.no_undo));
    })

-- The volumes, one after the other.

-- the volumes with numbers below n
abbrev pub volumes_below : List ℕ → ℕ → ℕ → ℕ → List Volume
volumes_below base f c n = map (volume_at base f c) (filter (λ i. nat_lt (volumes_before i) c) (range_with_len 0 n))

pub volumes_more : (base : List ℕ) (f c i : ℕ) → volumes_below base f c (i + 1) ≡ volumes_below base f c i ++ volume_if base f c i
volumes_more base f c i =
    let p = λ (k : ℕ). nat_lt (volumes_before k) c in
    ap (λ ns. map (volume_at base f c) (filter p ns)) (range-append 0 i 1 ∙ ap (λ a. range_with_len 0 i ++ range_with_len a 1) (let e : 0 + i ≡ i = omega arith in e))
    ∙ ap (map (volume_at base f c)) (filter-append p (range_with_len 0 i) (i ∷ []))
    ∙ map-append (volume_at base f c) (filter p (range_with_len 0 i)) (cond (p i) (i ∷ []) [])
    ∙ ap (λ vs. volumes_below base f c i ++ vs) (map-cond (volume_at base f c) (p i) i [])

pub any_named : (test : List ℕ → Bool) (volumes : List Volume) → list_any test (volume_names volumes) ≡ list_any (λ volume. test volume.name) volumes
any_named test volumes = any-map test (λ (volume : Volume). volume.name) volumes

-- ---- names that are too long

abbrev is_long : List ℕ → Bool
is_long name = nat_lt 255 (length name)

pub none_long : (vs ws : List Volume) → long_name (volume_names vs) ≡ None → long_name (volume_names ws) ≡ None → long_name (volume_names (vs ++ ws)) ≡ None
none_long vs ws h k =
    ap (λ b. fault_where b NameTooLong)
    (ap (list_any is_long) (map-append (λ (v : Volume). v.name) vs ws) ∙ list_any-append is_long (volume_names vs) (volume_names ws) ∙ or_from _ _ (where_none _ _ h) (where_none _ _ k))

-- all names have the same length
pub one_is_long : (base : List ℕ) (f c i : ℕ) → 0 < c → 255 < length (volume_at base f c i).name → long_name (volume_names (volumes_of base f c)) ≡ Some NameTooLong
one_is_long base f c i some long =
    let rest = filter (λ i. nat_lt (volumes_before i) c) (range_with_len 1 16) in
    let first = (volume_at base f c 0).name in
    let same : length first ≡ length (volume_at base f c i).name = length-name base (f + 0) (volume_size c 0) ∙ sym (length-name base (f + volumes_before i) (volume_size c i)) in
    ap (λ b. long_name (volume_names (map (volume_at base f c) (cond b (0 ∷ rest) rest)))) (lt-ltb 0 c some)
    ∙ ap (λ b. fault_where (b || list_any is_long (volume_names (map (volume_at base f c) rest))) NameTooLong) (lt-ltb 255 (length first) (omega (arith, same, long)))

-- the base itself is short enough
pub long_without_base : (a : CreateArgs) → head_fault a ≡ None → long_name (output_names a) ≡ long_name (volume_names (volumes_of a.base a.first a.count))
long_without_base a h =
    ap (λ b. fault_where (b || list_any (λ name. nat_lt 255 (length name)) (volume_names (volumes_of a.base a.first a.count))) NameTooLong)
    (le-ltb 255 (length a.base) (leb-true (length a.base) 255 (name_is_short a.base (head_passed a h).name)))

-- ---- their exponents

pub volumes_end : (base : List ℕ) (f c : ℕ) → f + c ≤ 65536 → All (λ volume. volume.first + volume.count ≤ 65536) (volumes_of base f c)
volumes_end base f c few =
    let p = λ (i : ℕ). nat_lt (volumes_before i) c in
    All-map (λ (volume : Volume). volume.first + volume.count ≤ 65536) (volume_at base f c) (volume_numbers c)
    (All-weaker (λ i. p i ≡ true) (λ i. (volume_at base f c i).first + (volume_at base f c i).count ≤ 65536) (λ i low. omega (arith, ltb-true (volumes_before i) c low, few)) (volume_numbers c) (filter_passes p (range_with_len 0 17)))
