-- Matches by the numbers of buffers, and by their names; the checksums of slices one after the other.
use Rattle.par2_slices.proofs.Common.{◌≡◌, ℕ, zero, suc, ◌+◌, ◌<◌, Bool, true, false, not, ◌||◌, cond, List, [], ◌∷◌, ◌++◌, length, map, drop, get_or, refl, sym, ap, subst, ◌∙◌, inl, inr, arith, Option, Some, None, IfSome, filter, find, ◌==◌, option_map, option_to_list, range_with_len, All, IsDistinct, bytes_eq, cases_lt, eq-eqb, eqb-true, false≢true, same_from_decides, append_assoc, drop_more, ext_get_or, get_or-map, length-map, All-filter, All-tail, get_or-map-range_with_len, get_or-range_with_len, length-map-range_with_len, length-range_with_len, bytes_eq-Decides, is_intact, matched, map-cond, Describe, Describes, NumbersAreNames, first_intact, matched_from, matched_numbers, listed_at, without_number, ◌-◌, ◌*◌, ◌≤◌, min, take, ap₂, zero-add, mul-le-mul_right, map-range_with_len_more, append-nil, length-take, length-drop, map-append, md5, Pair, pair_of, slice_at, window, first_pairs, or-false, apart_from_distinct, Folder, bytes_of, is_among}
use Rattle.par2_slices.specs.declared.matching.Target.{Target}
use Rattle.par2_slices.proofs.FoundWindows.{out_of}
use Rattle.par2_spec.specs.Sets as sets

-- the first of the buffers from index n on
first_from : (s : ℕ) (buffers : List (List ℕ)) (t : sets.Target) (free : List ℕ) (n : ℕ) → n < length free → first_intact s buffers t (drop n free)
    ≡ cond (is_intact s t (listed_at buffers (get_or free n 0))) (Some (get_or free n 0)) (first_intact s buffers t (drop (n + 1) free))
first_from s buffers t free n within = ap (λ is. first_intact s buffers t is) (drop_more free n 0 within)

pub first_here : (s : ℕ) (buffers : List (List ℕ)) (t : sets.Target) (free : List ℕ) (n : ℕ) → n < length free → is_intact s t (listed_at buffers (get_or free n 0)) ≡ true → first_intact s buffers t (drop n free) ≡ Some (get_or free n 0)
first_here s buffers t free n within h = grind (arith, first_from)

pub first_later : (s : ℕ) (buffers : List (List ℕ)) (t : sets.Target) (free : List ℕ) (n : ℕ) → n < length free → is_intact s t (listed_at buffers (get_or free n 0)) ≡ false → first_intact s buffers t (drop (n + 1) free) ≡ first_intact s buffers t (drop n free)
first_later s buffers t free n within h = grind (arith, first_from)

-- ---- one target after the other

-- target n, and those after it
pub described_from : (targets : List Target) (ts : List sets.Target) (n : ℕ) (d : Target) → Describe targets ts → n < length targets → (t : sets.Target) × (drop n ts ≡ t ∷ drop (n + 1) ts) × Describes (get_or targets n d) t
described_from [] ts n d h within = absurd (omega (arith, within))
described_from (target ∷ targets) [] n d h within = absurd h
described_from (target ∷ targets) (t ∷ ts) zero d h within = (t, refl, h.0)
described_from (target ∷ targets) (t ∷ ts) (suc n) d h within =
    let here = described_from targets ts n d h.1 (omega (arith, within)) in
    (here.0, here.1 ∙ ap (λ k. here.0 ∷ drop k (t ∷ ts)) (let e : suc (n + 1) ≡ suc n + 1 = omega arith in e), here.2)

pub described_all : (targets : List Target) (ts : List sets.Target) → Describe targets ts → length ts ≡ length targets
described_all [] [] h = refl
described_all [] (t ∷ ts) h = absurd h
described_all (target ∷ targets) [] h = absurd h
described_all (target ∷ targets) (t ∷ ts) h = let e : length ts ≡ length targets = described_all targets ts h.1 in omega (arith, e)

-- the match of one more target
pub match_pushed : (s : ℕ) (buffers : List (List ℕ)) (targets : List Target) (ts : List sets.Target) (n : ℕ) (d : Target) (numbers : List (Option ℕ)) (first : Option ℕ) (free left : List ℕ) → n < length targets → Describe targets ts
    → ((t : sets.Target) → Describes (get_or targets n d) t → first ≡ first_intact s buffers t free) → left ≡ without_number first free
    → numbers ++ matched_from s buffers free (drop n ts) ≡ matched_numbers s buffers ts → (numbers ++ first ∷ []) ++ matched_from s buffers left (drop (n + 1) ts) ≡ matched_numbers s buffers ts
match_pushed s buffers targets ts n d numbers first free left within described first_is left_is so_far =
    let here = described_from targets ts n d described within in
    let its : first ≡ first_intact s buffers here.0 free = first_is here.0 here.2 in
    let rest : List sets.Target = drop (n + 1) ts in
    append_assoc numbers (first ∷ []) (matched_from s buffers left rest)
    ∙ ap (λ ms. numbers ++ first ∷ ms) (ap (λ free. matched_from s buffers free rest) left_is)
    ∙ ap (λ (o : Option ℕ). numbers ++ o ∷ matched_from s buffers (without_number o free) rest) its
    ∙ ap (λ (us : List sets.Target). numbers ++ matched_from s buffers free us) (sym here.1)
    ∙ so_far

-- each of the numbers is below n
abbrev pub AreBelow : ℕ → List ℕ → Type 0
AreBelow n free = All (λ i. i < n) free

pub below_length : (n : ℕ) → AreBelow n (range_with_len 0 n)
below_length n k d within =
    let low : k < n = omega (arith, within, length-range_with_len 0 n) in
    subst (λ i. i < n) (sym (get_or-range_with_len 0 n k d low)) (omega (arith, low))

-- ---- numbers and names

-- distinct names are equal exactly if their numbers are
same_number : (names : List (List ℕ)) (i j : ℕ) → IsDistinct bytes_eq names → i < length names → j < length names → bytes_eq (listed_at names i) (listed_at names j) ≡ (i == j)
same_number names i j distinct inside within =
    same_from_decides {P = i ≡ j} (bytes_eq (listed_at names i) (listed_at names j)) (i == j)
    (one, λ e. (bytes_eq-Decides _ _).1 (ap (listed_at names) e))
    (λ e. eqb-true i j e, λ e. eq-eqb i j e)
  where
    one : bytes_eq (listed_at names i) (listed_at names j) ≡ true → i ≡ j
    one e = elim (cases_lt i j) as (λ _. i ≡ j) [
      | inl before ↦ absurd (false≢true (sym (apart_from_distinct bytes_eq names i j [] distinct before within) ∙ e))
      | inr rest ↦ elim (cases_lt j i) as (λ _. i ≡ j) [
        | inl after ↦ (
            let same : listed_at names j ≡ listed_at names i = sym ((bytes_eq-Decides (listed_at names i) (listed_at names j)).0 e) in
            absurd (false≢true (sym (apart_from_distinct bytes_eq names j i [] distinct after inside) ∙ (bytes_eq-Decides (listed_at names j) (listed_at names i)).1 same))
            )
        | inr both ↦ omega (arith, rest, both)
      ]
    ]

-- the first name is that of the first number
first_name : (folder : Folder) (s : ℕ) (names : List (List ℕ)) (t : sets.Target) (free : List ℕ) → AreBelow (length names) free
    → find (λ name. is_intact s t (bytes_of folder name)) (map (listed_at names) free) ≡ option_map (listed_at names) (first_intact s (map (bytes_of folder) names) t free)
first_name folder s names t [] below = refl
first_name folder s names t (i ∷ free) below =
    let buffers : List (List ℕ) = map (bytes_of folder) names in
    let name : List ℕ = listed_at names i in
    let inside : i < length names = below 0 0 (omega arith) in
    ap (λ o. cond (is_intact s t (bytes_of folder name)) (Some name) o) (first_name folder s names t free (All-tail (λ j. j < length names) i free below))
    ∙ ap (λ b. cond b (Some name) (option_map (listed_at names) (first_intact s buffers t free))) (ap (is_intact s t) (sym (get_or-map (bytes_of folder) names i [] [] inside)))
    ∙ out_of (listed_at names) (is_intact s t (listed_at buffers i)) i (first_intact s buffers t free)

first_below : (s n : ℕ) (buffers : List (List ℕ)) (t : sets.Target) (free : List ℕ) → AreBelow n free → IfSome (first_intact s buffers t free) (λ i. i < n)
first_below s n buffers t [] below = tt
first_below s n buffers t (i ∷ free) below = step (is_intact s t (listed_at buffers i)) (first_below s n buffers t free (All-tail (λ j. j < n) i free below))
  where
    step : (b : Bool) → IfSome (first_intact s buffers t free) (λ j. j < n) → IfSome (cond b (Some i) (first_intact s buffers t free)) (λ j. j < n)
    step true h = below 0 0 (omega arith)
    step false h = h

-- the names without the taken one are those of the numbers without the taken one
names_left : (names : List (List ℕ)) (free : List ℕ) (taken : Option ℕ) → IsDistinct bytes_eq names → AreBelow (length names) free → IfSome taken (λ i. i < length names)
    → filter (λ name. not (is_among (option_to_list (option_map (listed_at names) taken)) name)) (map (listed_at names) free) ≡ map (listed_at names) (without_number taken free)
names_left names [] None distinct below low = refl
names_left names (i ∷ free) None distinct below low = ap (λ rest. listed_at names i ∷ rest) (names_left names free None distinct (All-tail (λ j. j < length names) i free below) low)
names_left names [] (Some taken) distinct below low = refl
names_left names (i ∷ free) (Some taken) distinct below low =
    let name : List ℕ = listed_at names i in
    let rest : List ℕ = without_number (Some taken) free in
    let other : Bool = not (bytes_eq name (listed_at names taken) || false) in
    let same : other ≡ not (i == taken) = ap not (or-false (bytes_eq name (listed_at names taken)) ∙ same_number names i taken distinct (below 0 0 (omega arith)) low) in
    ap (λ left. cond other (name ∷ left) left) (names_left names free (Some taken) distinct (All-tail (λ j. j < length names) i free below) low)
    ∙ ap (λ b. cond b (name ∷ map (listed_at names) rest) (map (listed_at names) rest)) same
    ∙ sym (map-cond (listed_at names) (not (i == taken)) i rest)

pub left_below : (n : ℕ) (free : List ℕ) (taken : Option ℕ) → AreBelow n free → AreBelow n (without_number taken free)
left_below n free None below = below
left_below n free (Some taken) below = All-filter (λ i. not (i == taken)) (λ i. i < n) free below

numbers_from : (folder : Folder) (s : ℕ) (names : List (List ℕ)) (free : List ℕ) (ts : List sets.Target) → IsDistinct bytes_eq names → AreBelow (length names) free
    → map (option_map (listed_at names)) (matched_from s (map (bytes_of folder) names) free ts) ≡ matched folder s (map (listed_at names) free) ts
numbers_from folder s names free [] distinct below = refl
numbers_from folder s names free (t ∷ ts) distinct below =
    let buffers : List (List ℕ) = map (bytes_of folder) names in
    let first : Option ℕ = first_intact s buffers t free in
    let found : Option (List ℕ) = option_map (listed_at names) first in
    sym (ap (λ o. o ∷ matched folder s (filter (λ name. not (is_among (option_to_list o) name)) (map (listed_at names) free)) ts) (first_name folder s names t free below)
    ∙ ap (λ left. found ∷ matched folder s left ts) (names_left names free first distinct below (first_below s (length names) buffers t free below))
    ∙ ap (λ rest. found ∷ rest) (sym (numbers_from folder s names (without_number first free) ts distinct (left_below (length names) free first below))))

names_of_all : (names : List (List ℕ)) → map (listed_at names) (range_with_len 0 (length names)) ≡ names
names_of_all names =
    let all : List (List ℕ) = map (listed_at names) (range_with_len 0 (length names)) in
    let count : length all ≡ length names = length-map-range_with_len (listed_at names) 0 (length names) in
    ext_get_or [] all names count (λ i h. get_or-map-range_with_len (listed_at names) 0 (length names) i i [] (omega (arith, h, count)) (omega arith))

-- the matches by the numbers of distinct names are those by the names
pub numbers_are_names : (folder : Folder) (s : ℕ) (names : List (List ℕ)) (ts : List sets.Target) → NumbersAreNames folder s names ts
numbers_are_names folder s names ts distinct =
    ap (λ n. map (option_map (listed_at names)) (matched_from s (map (bytes_of folder) names) (range_with_len 0 n) ts)) (length-map names (bytes_of folder))
    ∙ numbers_from folder s names (range_with_len 0 (length names)) ts distinct (below_length (length names))
    ∙ ap (λ free. matched folder s free ts) (names_of_all names)

-- Slices that lie in the file entirely, and their checksums one after the other.

-- a window that lies in the file has no padding
pub whole_window : (s : ℕ) (bytes : List ℕ) (o : ℕ) → o + s ≤ length bytes → take s (drop o bytes) ≡ window s bytes o
whole_window s bytes o within = grind (arith, length-take, length-drop, append-nil)

-- a slice before the last of some that lie in the file
pub one_of_whole : (s : ℕ) (bytes : List ℕ) (first count k : ℕ) → (first + count) * s ≤ length bytes → k < count
    → take s (drop ((first + k) * s) bytes) ≡ slice_at s bytes (first + k)
one_of_whole s bytes first count k within below =
    let more : (first + k + 1) * s ≤ (first + count) * s = mul-le-mul_right s (omega (arith, below)) in
    whole_window s bytes ((first + k) * s) (omega (arith, more, within))

-- the digest of a lane is that of its slice
pub digest_is : (s first count k : ℕ) (bytes starts : List ℕ) (digest : List ℕ) → (first + count) * s ≤ length bytes → k < count → get_or starts k 0 ≡ (first + min k (count - 1)) * s
    → digest ≡ md5 (take s (drop (get_or starts k 0) bytes)) → digest ≡ md5 (slice_at s bytes (first + k))
digest_is s first count k bytes starts digest within below start its = grind (arith, one_of_whole)

-- the checksums of one more slice
pub one_pair_more : (s : ℕ) (bytes : List ℕ) (n m : ℕ) (pairs new : List Pair) (pair : Pair) → pairs ≡ first_pairs s bytes n → pair ≡ pair_of (slice_at s bytes n)
    → new ≡ pairs ++ pair ∷ [] → m ≡ n + 1 → new ≡ first_pairs s bytes m
one_pair_more s bytes n m pairs new pair so_far is pushed next =
    let cut = slice_at s bytes in
    pushed
    ∙ ap₂ (λ (xs : List Pair) (x : Pair). xs ++ x ∷ []) so_far is
    ∙ sym (ap (first_pairs s bytes) next ∙ ap (map pair_of) (map-range_with_len_more cut 0 n n (zero-add n)) ∙ map-append pair_of (map cut (range_with_len 0 n)) (cut n ∷ []))
