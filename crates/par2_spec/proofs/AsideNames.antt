-- A numbered name is valid if it has at most 255 bytes.
use Rattle.par2_spec.proofs.Common.{◌≡◌, ℕ, zero, suc, ◌+◌, ◌%◌, ◌^◌, ◌<◌, ◌≤◌, List, [], ◌∷◌, ◌++◌, length, map, drop, refl, sym, ap, ◌∙◌, subst, cond, true, false, Bool, not, arith, eqb, length-append, append_assoc, find, Option, Some, None, is_some, unwrap_or, decimal, codes, ◌==◌, nat_eq, range_with_len, list_all, list_any, starts_with, bytes_eq, IsUtf8, drop-append_seam, and_parts, and_from, or_cases, or_parts, or_from, cases_Bool, ne_eqb, not_from_false, cases_eq, false≢true, not-true, not-false, false_from_ne_true, le-leb, leb-true, nat_list_eq_equiv, list_all-append, list_any-append, length-map-range_with_len, length-le_from_is_member, is_among, numbered, IsLeastFree, is_name, Folder, names, ParSet, target_names, taken_for, AreFew, aside, IsUtf8-append, IsUtf8-from_ascii, IsUtf8-from_is_utf8, is_utf8-from_IsUtf8, decimal_by_steps, decimal_injective, decimal_nonempty, IsAscii-decimal, IsAscii-cons}
use Rattle.par2_spec.proofs.Basics.{same_name, other_name, among-append, AreDistinct, std_from_distinct, clash, found_passes, by_either}
use Rattle.par2_spec.proofs.NameTests.{no_name, tests_of, name_of}

-- ---- a numbered name determines its name

abbrev pub is_dotless : List ℕ → Bool
is_dotless bytes = list_all (λ b. not (b == 46)) bytes

dotless_digit : (d : ℕ) → is_dotless ((48 + d) ∷ []) ≡ true
dotless_digit d = and_from _ _ (not_from_false _ (ne_eqb (48 + d) 46 (λ e. absurd (omega (arith, e))))) refl

dotless_decimal : (n : ℕ) → n < 2 ^ 64 → is_dotless (decimal n) ≡ true
dotless_decimal n small =
    decimal_by_steps (λ n ds. is_dotless ds ≡ true) (λ n h. dotless_digit n)
    (λ n ds h k. list_all-append (λ b. not (b == 46)) ds ((48 + n % 10) ∷ []) ∙ and_from _ _ k (dotless_digit (n % 10))) n small

-- the bytes before the last dot
abbrev cut_here : Bool → ℕ → Option (List ℕ) → Option (List ℕ)
cut_here dot b (Some front) = Some (b ∷ front)
cut_here true b None = Some []
cut_here false b None = None

abbrev before_last_dot : List ℕ → Option (List ℕ)
before_last_dot [] = None
before_last_dot (b ∷ bytes) = cut_here (b == 46) b (before_last_dot bytes)

no_dot : (bytes : List ℕ) → is_dotless bytes ≡ true → before_last_dot bytes ≡ None
no_dot [] h = refl
no_dot (b ∷ bytes) h = grind (arith, (and_parts (not (b == 46)) (is_dotless bytes) h), (no_dot bytes (and_parts (not (b == 46)) (is_dotless bytes) h).1), (not-true (b == 46) (and_parts (not (b == 46)) (is_dotless bytes) h).0))

one_dot : (name bytes : List ℕ) → is_dotless bytes ≡ true → before_last_dot (name ++ 46 ∷ bytes) ≡ Some name
one_dot [] bytes h = ap (cut_here true 46) (no_dot bytes h)
one_dot (b ∷ name) bytes h = ap (cut_here (b == 46) b) (one_dot name bytes h)

pub numbered_is : (name : List ℕ) (n : ℕ) → numbered name n ≡ name ++ 46 ∷ decimal n
numbered_is name n = append_assoc name (codes ".") (decimal n)

pub numbered_name : (a b : List ℕ) (m n : ℕ) → m < 2 ^ 64 → n < 2 ^ 64 → numbered a m ≡ numbered b n → a ≡ b
numbered_name a b m n h k e = grind (arith, (one_dot a (decimal m) (dotless_decimal m h)), (numbered_is a m), (numbered_is b n), (one_dot b (decimal n) (dotless_decimal n k)))

pub numbered_number : (a : List ℕ) (m n : ℕ) → m < 2 ^ 64 → n < 2 ^ 64 → numbered a m ≡ numbered a n → m ≡ n
numbered_number a m n h k e = grind (arith, (decimal_injective m n h k (sym (drop-append_seam (a ++ codes ".") (decimal m)) ∙ ap (drop (length (a ++ codes "."))) e ∙ drop-append_seam (a ++ codes ".") (decimal n))))

-- ---- the first numbered name that passes a test

-- n is the first number from a on, of the next k, whose name passes
pub record IsFirst (test : List ℕ → Bool) (g : ℕ → List ℕ) (a k n : ℕ) : Type 0 where
  pub from : a ≤ n
  pub below : n < a + k
  pub passes : test (g n) ≡ true
  pub none_before : (m : ℕ) → a ≤ m → m < n → test (g m) ≡ false

first_found : (test : List ℕ → Bool) (g : ℕ → List ℕ) (a k : ℕ) → is_some (find test (map g (range_with_len a k))) ≡ true → (n : ℕ) × IsFirst test g a k n × (find test (map g (range_with_len a k)) ≡ Some (g n))
first_found test g a zero h = absurd (false≢true h)
first_found test g a (suc k) h = grind (arith, by_either, cases_eq, first_found test g (a + 1) k)

-- ---- a number is free

none_passes : (test : List ℕ → Bool) (xs : List (List ℕ)) → is_some (find test xs) ≡ false → (q : List ℕ) → is_among xs q ≡ true → test q ≡ false
none_passes test [] h q i = absurd (false≢true i)
none_passes test (x ∷ xs) h q i =
    let split : (b : Bool) (rest : Option (List ℕ)) → is_some (cond b (Some x) rest) ≡ false → (b ≡ false) × (is_some rest ≡ false) = λ b rest j. grind arith in
    let both = split (test x) (find test xs) h in
    by_either (or_cases (bytes_eq q x) (is_among xs q) i)
    (λ here. subst (λ y. test y ≡ false) (sym (same_name q x here)) both.0)
    (λ there. none_passes test xs both.1 q there)

not_later : (name : List ℕ) (m a k : ℕ) → m < a → a + k ≤ 2 ^ 64 → is_among (map (numbered name) (range_with_len a k)) (numbered name m) ≡ false
not_later name m a zero low high = refl
not_later name m a (suc k) low high = grind (arith, or_from, other_name, numbered_number, not_later name m (a + 1) k (omega (arith, low)) (omega (arith, high)))

numbered_once : (name : List ℕ) (a k : ℕ) → a + k ≤ 2 ^ 64 → AreDistinct (map (numbered name) (range_with_len a k))
numbered_once name a zero h = tt
numbered_once name a (suc k) h = (not_later name a (a + 1) k (omega arith) (omega (arith, h)), numbered_once name (a + 1) k (omega (arith, h)))

-- among one name more than are taken, one is free
one_is_free : (name : List ℕ) (taken : List (List ℕ)) → length taken + 1 < 2 ^ 64 → is_some (find (λ other. not (is_among taken other)) (map (numbered name) (range_with_len 1 (length taken + 1)))) ≡ true
one_is_free name taken few =
    let free : List ℕ → Bool = λ other. not (is_among taken other) in
    let numbers : List (List ℕ) = map (numbered name) (range_with_len 1 (length taken + 1)) in
    let too_many : length numbers ≤ length taken → ⊥ =
    λ h. (let e : length numbers ≡ length taken + 1 = length-map-range_with_len (numbered name) 1 (length taken + 1) in omega (arith, e, h)) in
    grind (arith, (cases_Bool (is_some (find free numbers))), length-le_from_is_member, nat_list_eq_equiv, std_from_distinct, numbered_once, not-false, none_passes)

-- ---- asides

-- an aside is the name with the least number that is not taken
pub aside_is : (folder : Folder) (set : ParSet) (name : List ℕ) → AreFew folder set
    → (n : ℕ) × IsFirst (λ other. not (is_among (taken_for folder set) other)) (numbered name) 1 (length (taken_for folder set) + 1) n × (aside folder set name ≡ numbered name n)
aside_is folder set name few = unfold aside in
    let r = first_found (λ other. not (is_among (taken_for folder set) other)) (numbered name) 1 (length (taken_for folder set) + 1) (one_is_free name (taken_for folder set) few) in
    (r.0, r.1, ap (λ o. unwrap_or o []) r.2)

pub aside_out : (folder : Folder) (set : ParSet) (name : List ℕ) → AreFew folder set → is_among (taken_for folder set) (aside folder set name) ≡ false
aside_out folder set name few = grind (arith, (aside_is folder set name few), (not-true (is_among (taken_for folder set) (numbered name (aside_is folder set name few).0)) (aside_is folder set name few).1.passes))

pub aside_one : (folder : Folder) (set : ParSet) (a b : List ℕ) → AreFew folder set → aside folder set a ≡ aside folder set b → a ≡ b
aside_one folder set a b few e = grind (arith, (aside_is folder set a few), (aside_is folder set b few), numbered_name)

pub aside_least : (folder : Folder) (set : ParSet) (name : List ℕ) → AreFew folder set → IsLeastFree (taken_for folder set) name (aside folder set name)
aside_least folder set name few = grind (arith, (aside_is folder set name few), aside_out, not-false)

-- an aside is no target's name, even if no number is free
pub aside_no_target : (folder : Folder) (set : ParSet) (name : List ℕ) → list_all is_name (target_names set) ≡ true → is_among (target_names set) (aside folder set name) ≡ false
unfolding aside
aside_no_target folder set name are_names = step (find free numbers) (found_passes free numbers)
  where
    free : List ℕ → Bool
    free other = not (is_among (taken_for folder set) other)

    numbers : List (List ℕ)
    numbers = map (numbered name) (range_with_len 1 (length (taken_for folder set) + 1))

    step : (o : Option (List ℕ)) → ((q : List ℕ) → o ≡ Some q → (is_among numbers q ≡ true) × (free q ≡ true)) → is_among (target_names set) (unwrap_or o []) ≡ false
    step None h = no_name (target_names set) [] are_names (unfold is_name in refl)
    step (Some q) h = (or_parts _ _ (sym (among-append (names folder) (target_names set) q) ∙ not-true _ (h q refl).1)).1

-- a byte below the digits is not a digit
no_low_digit : (low d : ℕ) → low < 48 → list_any (λ b. b == low) ((48 + d) ∷ []) ≡ false
no_low_digit low d h = or_from _ _ (ne_eqb (48 + d) low (λ e. absurd (omega (arith, e, h)))) refl

no_low : (low n : ℕ) → low < 48 → n < 2 ^ 64 → list_any (λ b. b == low) (decimal n) ≡ false
no_low low n h small =
    decimal_by_steps (λ n ds. list_any (λ b. b == low) ds ≡ false) (λ n i. no_low_digit low n h)
    (λ n ds i k. list_any-append (λ b. b == low) ds ((48 + n % 10) ∷ []) ∙ or_from _ _ k (no_low_digit low (n % 10) h)) n small

no_low_numbered : (low : ℕ) (name : List ℕ) (n : ℕ) → low < 48 → (46 ≡ low → ⊥) → n < 2 ^ 64 → list_any (λ b. b == low) name ≡ false → list_any (λ b. b == low) (numbered name n) ≡ false
no_low_numbered low name n h other small out = grind (arith, numbered_is, list_any-append, or_from, ne_eqb, no_low)

-- a dotless prefix of a numbered name is a prefix of the name
pub front_of_name : (front name rest : List ℕ) → is_dotless front ≡ true → starts_with nat_eq (name ++ 46 ∷ rest) front ≡ true → starts_with nat_eq name front ≡ true
front_of_name (b ∷ front) (c ∷ name) rest h k =
    let r = and_parts (eqb b c) (starts_with nat_eq (name ++ 46 ∷ rest) front) k in
    and_from _ _ r.0 (front_of_name front name rest (and_parts (not (b == 46)) _ h).1 r.1)
front_of_name front name rest h k = grind arith

pub longer : (name other : List ℕ) → length other < length name → bytes_eq name other ≡ false
longer name other h = other_name name other (λ e. let same : length name ≡ length other = ap length e in absurd (omega (arith, same, h)))

pub numbered_is_name : (name : List ℕ) (n : ℕ) → n < 2 ^ 64 → is_name name ≡ true → length (numbered name n) ≤ 255 → is_name (numbered name n) ≡ true
numbered_is_name name n small h short =
    let t = tests_of name h in
    let some : 1 ≤ length name = leb-true 1 (length name) t.some in
    let long : length (numbered name n) ≡ length name + suc (length (decimal n)) = ap length (numbered_is name n) ∙ length-append name (46 ∷ decimal n) in
    name_of (numbered name n) (record {
      some = le-leb 1 (length (numbered name n)) (omega (arith, some, long));
      short = le-leb (length (numbered name n)) 255 short;
      bytes = is_utf8-from_IsUtf8 (numbered name n) (subst IsUtf8 (sym (numbered_is name n))
          (IsUtf8-append name (46 ∷ decimal n) (IsUtf8-from_is_utf8 name t.bytes) (IsUtf8-from_ascii (46 ∷ decimal n) (IsAscii-cons 46 (decimal n) (omega arith) (IsAscii-decimal n small)))));
      no_slash = not_from_false _ (no_low_numbered 0x2F name n (omega arith) (λ e. absurd (omega (arith, e))) small (not-true _ t.no_slash));
      no_zero = not_from_false _ (no_low_numbered 0 name n (omega arith) (λ e. absurd (omega (arith, e))) small (not-true _ t.no_zero));
      no_dot = not_from_false _ (longer (numbered name n) (codes ".") (omega (arith, some, (decimal_nonempty n small), long)));
      no_dots = not_from_false _ (longer (numbered name n) (codes "..") (omega (arith, some, (decimal_nonempty n small), long)));
      no_undo = not_from_false _ (false_from_ne_true _ (λ k.
          clash (grind (arith, and_parts, and_from, front_of_name))
          (not-true _ t.no_undo)));
    })

pub aside_is_name : (folder : Folder) (set : ParSet) (name : List ℕ) → AreFew folder set → is_name name ≡ true → length (aside folder set name) ≤ 255 → is_name (aside folder set name) ≡ true
aside_is_name folder set name few h short = grind (arith, (aside_is folder set name few), numbered_is_name)
